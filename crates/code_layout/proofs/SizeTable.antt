-- The table of inlined sizes.
use Rattle.std.proofs.Common.{◌≡◌, ℕ, zero, suc, ◌+◌, ◌*◌, ◌<◌, ◌≤◌, List, [], ◌∷◌, length, slice_index, inl, inr, ap, ◌∙◌, sym, subst, arith}
use Rattle.std.proofs.lemmas.Bool.{cases_lt}
use Rattle.std.proofs.Math.Nat.{mul-le-mul_right}
use Rattle.std.proofs.lemmas.List.{get_or_past}
use Rattle.std.proofs.lemmas.List.Elements.{All-nil, All-cons, All-from_get_or}
use Rattle.std.proofs.lemmas.List.Sums.{sum_by-le}
use Rattle.std.proofs.lemmas.Option.{slice_get_past}
use Rattle.std.specs.Prelude.{Option, Some, None, sum_by, All}
use Rattle.std.specs.Option.{option_map_or}
use Rattle.std.specs.List.{AllByRecursion}
use Rattle.guest_program.specs.InlinedSize.{body_of, taken_in, inlined_size}
use Rattle.guest_program.specs.Program.{IsProgram, IsFunc}
use Rattle.guest_program.specs.declared.instr.Func.{Func}
use Rattle.guest_program.specs.declared.instr.Instr.{Instr}
use Rattle.code_layout.specs.Layouts.{inline_callee}
use Rattle.code_layout.specs.Sizes.{AreSizes, size_by}
use Rattle.code_layout.specs.declared.sizes.TheConstants.{MAX_PART}
use Rattle.code_layout.proofs.Counting.{size_inlined}

no_body : (funcs : List Func) (number : ℕ) → length funcs ≤ number → body_of funcs number ≡ []
no_body funcs number past = ap (λ o. option_map_or (λ (f : Func). f.body) o []) (slice_get_past funcs number past)

no_size : (funcs : List Func) (depth number : ℕ) → length funcs ≤ number → inlined_size funcs depth number ≡ 0
no_size funcs zero number past = ap length (no_body funcs number past)
no_size funcs (suc depth) number past = ap (λ (b : List Instr). length b + sum_by (taken_in funcs (λ other. inlined_size funcs depth other)) b) (no_body funcs number past)

-- what the functions have, all numbers have
each_size : (funcs : List Func) (depth : ℕ) (row : List ℕ) → length row ≡ length funcs → ((number : ℕ) → number < length funcs → slice_index row number ≡ inlined_size funcs depth number)
    → (number : ℕ) → slice_index row number ≡ inlined_size funcs depth number
each_size funcs depth row count each number = elim (cases_lt number (length funcs)) [
  | inl less ↦ each number less
  | inr past ↦ (let after : length row ≤ number = omega (arith, count, past) in get_or_past row number 0 after ∙ sym (no_size funcs depth number past))
]

pub are_sizes : (funcs : List Func) (depth : ℕ) (row : List ℕ) → length row ≡ length funcs → ((number : ℕ) → number < length funcs → slice_index row number ≡ inlined_size funcs depth number) → AreSizes funcs depth row
are_sizes funcs depth row count each = record { count = count; each = each_size funcs depth row count each }

-- the next row follows from the one before it
pub next_size : (funcs : List Func) (depth : ℕ) (row : List ℕ) (number : ℕ) → AreSizes funcs depth row → size_by funcs row number ≡ inlined_size funcs (suc depth) number
next_size funcs depth row number sizes =
    let same : (λ (callee : ℕ). slice_index row callee) ≡ (λ callee. inlined_size funcs depth callee) = λ i. λ callee. sizes.each callee i in
    ap (λ (size : ℕ → ℕ). length (body_of funcs number) + sum_by (taken_in funcs size) (body_of funcs number)) same

-- a bound of the sizes to a depth
abbrev most : ℕ → ℕ
most zero = 4096
most (suc depth) = 4096 + 4096 * most depth

pub body_few : (count : ℕ) (funcs : List Func) (number : ℕ) → AllByRecursion (IsFunc count) funcs → length (body_of funcs number) ≤ 4096
body_few count [] number all = omega arith
body_few count (f ∷ funcs) zero all = all.0.short
body_few count (f ∷ funcs) (suc number) all = body_few count funcs number all.1

option_low : (size : ℕ → ℕ) (bound : ℕ) (o : Option ℕ) → ((n : ℕ) → size n ≤ bound) → option_map_or size o 0 ≤ bound
option_low size bound None each = omega arith
option_low size bound (Some n) each = each n

taken_low : (funcs : List Func) (size : ℕ → ℕ) (bound : ℕ) (instr : Instr) → ((n : ℕ) → size n ≤ bound) → taken_in funcs size instr ≤ bound
taken_low funcs size bound instr each = subst (λ n. n ≤ bound) (size_inlined funcs size instr) (option_low size bound (inline_callee funcs instr.op) each)

everywhere : {X : Type 0} (P : X → Type 0) (xs : List X) → ((x : X) → P x) → All P xs
everywhere P [] each = All-nil P
everywhere P (x ∷ xs) each = All-cons P x xs (each x) (everywhere P xs each)

size_low : (funcs : List Func) → IsProgram funcs → (depth number : ℕ) → inlined_size funcs depth number ≤ most depth
size_low funcs program zero number = body_few (length funcs) funcs number program.each
size_low funcs program (suc depth) number =
    let few = body_few (length funcs) funcs number program.each in
    let size = taken_in funcs (λ other. inlined_size funcs depth other) in
    let body = body_of funcs number in
    let sum = sum_by-le size (most depth) body
    (everywhere (λ instr. size instr ≤ most depth) body (λ instr. taken_low funcs (λ other. inlined_size funcs depth other) (most depth) instr (λ other. size_low funcs program depth other))) in
    let most_sum : length body * most depth ≤ 4096 * most depth = mul-le-mul_right (most depth) few in
    omega (arith, few, sum, most_sum)

most_low : (depth : ℕ) → depth ≤ 3 → most depth ≤ MAX_PART
most_low zero low = omega arith
most_low (suc zero) low = omega arith
most_low (suc (suc zero)) low = omega arith
most_low (suc (suc (suc zero))) low = omega arith
most_low (suc (suc (suc (suc depth)))) low = absurd (omega (arith, low))

pub sizes_low : (funcs : List Func) (depth : ℕ) (row : List ℕ) → IsProgram funcs → AreSizes funcs depth row → depth ≤ 3 → All (λ size. size ≤ MAX_PART) row
sizes_low funcs depth row program sizes low =
    All-from_get_or (λ size. size ≤ MAX_PART) row 0 (λ number less.
    let is = sizes.each number in let bound = size_low funcs program depth number in let part = most_low depth low in omega (arith, is, bound, part))

pub next_sizes : (funcs : List Func) (depth : ℕ) (row same next : List ℕ) → same ≡ row → AreSizes funcs depth row → length next ≡ length funcs
    → ((number : ℕ) → number < length funcs → slice_index next number ≡ size_by funcs same number) → AreSizes funcs (depth + 1) next
next_sizes funcs depth row same next is sizes count each =
    let later : suc depth ≡ depth + 1 = omega arith in
    subst (λ d. AreSizes funcs d next) later
    (are_sizes funcs (suc depth) next count (λ number less. each number less ∙ ap (λ r. size_by funcs r number) is ∙ next_size funcs depth row number sizes))

pub last_size : (funcs : List Func) (depth : ℕ) (row same : List ℕ) (number at size : ℕ) → depth ≡ 3 → same ≡ row → AreSizes funcs depth row → at ≡ number → size ≡ size_by funcs same at
    → size ≡ inlined_size funcs 4 number
last_size funcs depth row same number at size last is sizes place sized =
    let three : AreSizes funcs 3 row = subst (λ d. AreSizes funcs d row) last sizes in
    sized ∙ ap (λ r. size_by funcs r at) is ∙ ap (size_by funcs row) place ∙ next_size funcs 3 row number three

-- what the size says of the layout
pub too_large : (funcs same : List Func) (number slots : ℕ) → same ≡ funcs → slots ≡ inlined_size same 4 number → 4096 < slots → (slots ≡ inlined_size funcs 4 number) × (4096 < inlined_size funcs 4 number)
too_large funcs same number slots is size large =
    let slots_is : slots ≡ inlined_size funcs 4 number = size ∙ ap (λ f. inlined_size f 4 number) is in (slots_is, subst (λ n. 4096 < n) slots_is large)

pub small : (funcs same : List Func) (number slots : ℕ) → same ≡ funcs → slots ≡ inlined_size same 4 number → slots ≤ 4096 → inlined_size funcs 4 number ≤ 4096
small funcs same number slots is size low = subst (λ n. n ≤ 4096) (size ∙ ap (λ f. inlined_size f 4 number) is) low
