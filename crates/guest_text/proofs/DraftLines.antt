-- The lines that a draft stands for, with one more.
use Rattle.std.proofs.Common.{◌≡◌, ◌∙◌, ℕ, suc, ◌+◌, ◌<◌, ◌≤◌, List, [], ◌∷◌, ◌++◌, map, length, get_or, Bool, true, false, ◌||◌, ◌==◌, nat_le, Option, Some, None, Ok, refl, sym, ap, subst, arith, append_assoc, append-nil, length-append, add-one, bytes_eq}
use Rattle.std.specs.List.{list_any, AllByRecursion}
use Rattle.std.proofs.lemmas.Grind.{flat_map-append}
use Rattle.std.proofs.lemmas.List.{map-append, length-map}
use Rattle.std.proofs.lemmas.List.Folds.{list_any-append}
use Rattle.std.proofs.lemmas.Bool.Decides.{nat_tests}
use Rattle.guest_program.specs.declared.instr.Func.{Func}
use Rattle.guest_program.specs.declared.instr.Instr.{Instr}
use Rattle.guest_program.specs.declared.instr.TheConstants.Func.{MAX_BODY}
use Rattle.guest_program.specs.declared.program.TheConstants.Program.{MAX_FUNCS}
use Rattle.prof_lines.specs.declared.fault.Cause.TheVariants.{Own}
use Rattle.guest_text.specs.declared.rule.Rule.TheVariants.{Limit}
use Rattle.guest_text.specs.declared.program_line.Head.{Head}
use Rattle.guest_text.specs.declared.program_line.ProgramLine.{ProgramLine}
use Rattle.guest_text.specs.declared.program_line.ProgramLine.TheVariants as line
use Rattle.prof_lines.specs.Values.{kept}
use Rattle.guest_text.specs.LineForms.{line_at}
use Rattle.guest_text.specs.Outline.{Functions, size_after}
use Rattle.guest_text.specs.ProgramLine.{IsHead}
use Rattle.guest_text.specs.ProgramRules.{heads, last_size, same_entry, has_label, is_twice, program_fault, program_next}
use Rattle.guest_text.specs.ProgramText.{head_of, func_lines, program_lines}
use Rattle.guest_text.specs.Draft.{is_among, AreSame, entry_key, func_of, draft_funcs, draft_lines, IsDraft}
use Rattle.guest_text.proofs.EntryKeys.{keys_tell}
use Rattle.guest_text.proofs.ProgramHeads.{heads-append, heads_instr, heads_program, last_size-append}

lines_append : (one other : List Func) → program_lines (one ++ other) ≡ program_lines one ++ program_lines other
lines_append one other = flat_map-append func_lines one other

-- the lines of a draft whose last function is this one
last_lines : (done : List Func) (last : Func) → draft_lines done (Some last) ≡ program_lines done ++ func_lines last
last_lines done last = lines_append done (last ∷ []) ∙ ap (λ (z : List ProgramLine). program_lines done ++ z) (append-nil (func_lines last))

-- how many functions there are
pub number_of_heads : (done : List Func) (last : Func) → length (heads (draft_lines done (Some last))) ≡ suc (length done)
number_of_heads done last =
    ap length (heads_program (done ++ last ∷ [])) ∙ length-map (done ++ last ∷ []) head_of ∙ length-append done (last ∷ []) ∙ add-one (length done)

pub last_body_size : (sizes : List ℕ) (done : List Func) (last : Func) → size_after sizes (length (heads (draft_lines done (Some last)))) ≡ Some (get_or sizes (length done) 0)
last_body_size sizes done last = ap (size_after sizes) (number_of_heads done last)

size_of_body : (size : ℕ) (body : List Instr) → last_size size (map (λ instr. line.Instr instr) body) ≡ size + length body
size_of_body size [] = omega arith
size_of_body size (instr ∷ body) = size_of_body (suc size) body ∙ omega arith

-- how many instructions of the last function were read
pub last_size_is : (done : List Func) (last : Func) → last_size 0 (draft_lines done (Some last)) ≡ length last.body
last_size_is done last =
    ap (last_size 0) (last_lines done last) ∙ last_size-append 0 (program_lines done) (func_lines last) ∙ size_of_body 0 last.body ∙ omega arith

-- the lines of a draft with one more instruction
pub with_instr_lines : (done : List Func) (last more : Func) (instr : Instr) → more ≡ func_of (head_of last) (last.body ++ instr ∷ [])
    → draft_lines done (Some more) ≡ draft_lines done (Some last) ++ line.Instr instr ∷ []
with_instr_lines done last more instr is =
    let instrs = map (λ i. line.Instr i) last.body in
    ap (λ (f : Func). draft_lines done (Some f)) is ∙ last_lines done (func_of (head_of last) (last.body ++ instr ∷ []))
    ∙ ap (λ (z : List ProgramLine). program_lines done ++ line.Func (head_of last) ∷ z) (map-append (λ i. line.Instr i) last.body (instr ∷ []))
    ∙ sym (append_assoc (program_lines done) (line.Func (head_of last) ∷ instrs) (line.Instr instr ∷ []))
    ∙ ap (λ (z : List ProgramLine). z ++ line.Instr instr ∷ []) (sym (last_lines done last))

-- an instruction changes nothing of the functions' lines
same_heads : (done : List Func) (last more : Func) (instr : Instr) → more ≡ func_of (head_of last) (last.body ++ instr ∷ [])
    → heads (draft_lines done (Some last)) ≡ heads (draft_lines done (Some more))
same_heads done last more instr is =
    sym (ap heads (with_instr_lines done last more instr is) ∙ heads_instr (draft_lines done (Some last)) instr)

length_more : (done : List Func) (last more : Func) → length (done ++ more ∷ []) ≡ length (done ++ last ∷ [])
length_more done last more = length-append done (more ∷ []) ∙ sym (length-append done (last ∷ []))

pub with_instr_draft : (labels entries : List (List ℕ)) (done : List Func) (last more : Func) (instr : Instr) → more ≡ func_of (head_of last) (last.body ++ instr ∷ [])
    → IsDraft labels entries done (Some last) → IsDraft labels entries done (Some more)
with_instr_draft labels entries done last more instr is draft =
    let same = same_heads done last more instr is in
    record {
      few = subst (λ (n : ℕ). n ≤ MAX_FUNCS) (sym (length_more done last more)) draft.few;
      begun = λ none. absurd cc;
      fit = subst (AllByRecursion IsHead) same draft.fit;
      labels_are = subst (λ (z : List Head). AreSame labels (map (λ head. head.label) z)) same draft.labels_are;
      entries_are = subst (λ (z : List Head). AreSame entries (map entry_key z)) same draft.entries_are;
    }

any_mapped : {A B : Type 0} (p : B → Bool) (f : A → B) (xs : List A) → list_any p (map f xs) ≡ list_any (λ x. p (f x)) xs
any_mapped p f [] = refl
any_mapped p f (x ∷ xs) = ap (λ (z : Bool). p (f x) || z) (any_mapped p f xs)

any_same_key : (head : Head) (others : List Head) → IsHead head → AllByRecursion IsHead others
    → list_any (λ other. bytes_eq (entry_key other) (entry_key head)) others ≡ list_any (λ other. same_entry other head) others
any_same_key head [] is fit = refl
any_same_key head (other ∷ others) is fit = rw (keys_tell other head fit.0 is, any_same_key head others is fit.1) refl

-- the words tell whether a function's label, or its entry, is that of one of those before it
pub twice_told : (labels entries : List (List ℕ)) (head : Head) (others : List Head) → IsHead head → AllByRecursion IsHead others
    → AreSame labels (map (λ other. other.label) others) → AreSame entries (map entry_key others)
    → (is_among labels head.label || is_among entries (entry_key head)) ≡ is_twice head others
twice_told labels entries head others is fit labels_are entries_are =
    let label = labels_are head.label ∙ any_mapped (λ word. bytes_eq word head.label) (λ other. other.label) others in
    let entry =
    entries_are (entry_key head) ∙ any_mapped (λ word. bytes_eq word (entry_key head)) entry_key others ∙ any_same_key head others is fit in
    ap (λ (z : Bool). z || is_among entries (entry_key head)) label ∙ ap (λ (z : Bool). has_label head.label others || z) entry

or_none : (one : Bool) → one ≡ (one || false)
or_none true = refl
or_none false = refl

all_more : (xs : List Head) (x : Head) → AllByRecursion IsHead xs → IsHead x → AllByRecursion IsHead (xs ++ x ∷ [])
all_more [] x all is = (is, tt)
all_more (y ∷ xs) x all is = (all.0, all_more xs x all.1 is)

or_other : (one other : Bool) → (one || other) ≡ (other || one)
or_other true true = refl
or_other true false = refl
or_other false true = refl
or_other false false = refl

-- a set of words with one more
words_more : {A : Type 0} (f : A → List ℕ) (words more : List (List ℕ)) (xs : List A) (x : A) → AreSame words (map f xs)
    → ((q : List ℕ) → is_among more q ≡ (bytes_eq (f x) q || is_among words q)) → AreSame more (map f (xs ++ x ∷ []))
words_more f words more xs x same added q =
    added q ∙ ap (λ (z : Bool). bytes_eq (f x) q || z) (same q) ∙ or_other (bytes_eq (f x) q) (is_among (map f xs) q)
    ∙ ap (λ (z : Bool). is_among (map f xs) q || z) (or_none (bytes_eq (f x) q))
    ∙ sym (ap (λ (z : List (List ℕ)). is_among z q) (map-append f xs (x ∷ [])) ∙ list_any-append (λ word. bytes_eq word q) (map f xs) (f x ∷ []))

-- the lines of a draft with one more function
pub with_head_lines : (done : List Func) (last : Option Func) (closed : List Func) (next : Func) (head : Head) → closed ≡ draft_funcs done last → next ≡ func_of head []
    → draft_lines closed (Some next) ≡ draft_lines done last ++ line.Func head ∷ []
with_head_lines done last closed next head is begins =
    ap (λ (f : Func). draft_lines closed (Some f)) begins ∙ last_lines closed (func_of head []) ∙ ap (λ (z : List Func). program_lines z ++ line.Func head ∷ []) is

pub with_head_draft : (labels entries more_labels more_entries : List (List ℕ)) (done : List Func) (last : Option Func) (closed : List Func) (next : Func) (head : Head)
    → closed ≡ draft_funcs done last → next ≡ func_of head [] → IsHead head → length (heads (draft_lines done last)) < MAX_FUNCS
    → ((q : List ℕ) → is_among more_labels q ≡ (bytes_eq head.label q || is_among labels q))
    → ((q : List ℕ) → is_among more_entries q ≡ (bytes_eq (entry_key head) q || is_among entries q))
    → IsDraft labels entries done last → IsDraft more_labels more_entries closed (Some next)
with_head_draft labels entries more_labels more_entries done last closed next head is begins fits few labels_more entries_more draft =
    let lines = with_head_lines done last closed next head is begins in
    let same : heads (draft_lines done last) ++ head ∷ [] ≡ heads (draft_lines closed (Some next)) =
    sym (ap heads lines ∙ heads-append (draft_lines done last) (line.Func head ∷ [])) in
    let count : length (draft_funcs done last) ≡ length (heads (draft_lines done last)) = sym (ap length (heads_program (draft_funcs done last)) ∙ length-map (draft_funcs done last) head_of) in
    let closed_count : length closed ≡ length (draft_funcs done last) = ap length is in
    record {
      few = simp length-append (omega (arith, few, count, closed_count));
      begun = λ none. absurd cc;
      fit = subst (AllByRecursion IsHead) same (all_more (heads (draft_lines done last)) head draft.fit fits);
      labels_are = subst (λ (z : List Head). AreSame more_labels (map (λ other. other.label) z)) same (words_more (λ other. other.label) labels more_labels (heads (draft_lines done last)) head draft.labels_are labels_more);
      entries_are = subst (λ (z : List Head). AreSame more_entries (map entry_key z)) same (words_more entry_key entries more_entries (heads (draft_lines done last)) head draft.entries_are entries_more);
    }

some_head : (done : List Func) (last : Func) → (length (heads (draft_lines done (Some last))) == 0) ≡ false
some_head done last = let number = number_of_heads done last in grind (arith, nat_tests, number)

over_limit : (most n m : ℕ) → n ≡ m → most ≤ m → nat_le most n ≡ true
over_limit most n m e h = grind (arith, nat_tests)

under_limit : (most n m : ℕ) → n ≡ m → m < most → nat_le most n ≡ false
under_limit most n m e h = grind (arith, nat_tests)

-- an instruction after the last that a function may have
pub instr_over : (sizes : List ℕ) (done : List Func) (last : Func) (instr : Instr) → MAX_BODY ≤ length last.body
    → program_fault sizes (draft_lines done (Some last)) (line.Instr instr) ≡ Some (Own Limit)
instr_over sizes done last instr h =
    rw (some_head done last, over_limit MAX_BODY (last_size 0 (draft_lines done (Some last))) (length last.body) (last_size_is done last) h) refl

pub instr_allowed : (sizes : List ℕ) (done : List Func) (last : Func) (instr : Instr) → length last.body < MAX_BODY
    → program_fault sizes (draft_lines done (Some last)) (line.Instr instr) ≡ None
instr_allowed sizes done last instr h =
    rw (some_head done last, under_limit MAX_BODY (last_size 0 (draft_lines done (Some last))) (length last.body) (last_size_is done last) h) refl

-- the sets of a draft tell whether a function's line comes twice
pub told : (labels entries : List (List ℕ)) (head : Head) (done : List Func) (last : Option Func) (lines : List ProgramLine) (label entry : List ℕ) → IsDraft labels entries done last
    → draft_lines done last ≡ lines → IsHead head → label ≡ head.label → entry ≡ entry_key head → (is_among labels label || is_among entries entry) ≡ is_twice head (heads lines)
told labels entries head done last lines label entry draft view is label_is entry_is =
    ap (λ (z : List ℕ). is_among labels z || is_among entries entry) label_is ∙ ap (λ (z : List ℕ). is_among labels head.label || is_among entries z) entry_is
    ∙ twice_told labels entries head (heads (draft_lines done last)) is draft.fit draft.labels_are draft.entries_are ∙ ap (λ (z : List ProgramLine). is_twice head (heads z)) view

-- what comes of a line that was read
pub next_is : (functions : Functions) (before : List ProgramLine) (bytes : List ℕ) (size : Option ℕ) (value : ProgramLine) → size ≡ size_after functions.sizes (length (heads before))
    → line_at functions.labels size bytes ≡ Ok value → program_next functions before bytes ≡ kept (program_fault functions.sizes before value) (before ++ value ∷ [])
next_is functions before bytes size value is read =
    let here : line_at functions.labels (size_after functions.sizes (length (heads before))) bytes ≡ Ok value = subst (λ (s : Option ℕ). line_at functions.labels s bytes ≡ Ok value) is read in
    rw here refl
