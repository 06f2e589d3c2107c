-- That the reason of a function is the reason of its own entry alone.
use Rattle.std.proofs.Common.{◌≡◌, ◌≢◌, ℕ, zero, suc, ◌<◌, List, [], ◌∷◌, length, map, refl, ap, ◌∙◌, sym, subst, arith}
use Rattle.std.proofs.lemmas.Bool.{and_parts, and_from, eqb-true, eq-eqb}
use Rattle.std.proofs.lemmas.Slice.Eq.{bytes_eq-Decides}
use Rattle.std.specs.Prelude.{Bool, true, false, cond, Option, Some, slice_set, bytes_eq, ◌==◌, ◌&&◌}
use Rattle.std.specs.List.{AllByRecursion}
use Rattle.guest_program.specs.Program.{AllDiffer, entry}
use Rattle.guest_program.specs.declared.instr.Func.{Func}
use Rattle.code_event.specs.CodeMap.{same_entry}
use Rattle.code_event.specs.declared.entry.Entry.{Entry}
use Rattle.code_layout.specs.Layouts.{entry_of, entry_at}
use Rattle.plain_machine.specs.PlainMachine.{Code}
use Rattle.plain_machine.specs.PlainFrames.{reason_in}
use Rattle.plain_machine.specs.Laws.{ReasonsFollow}

-- entries that the test calls the same are the same
same_is : (one other : Entry) → same_entry one other ≡ true → one ≡ other
same_is one other e =
    let d = and_parts (bytes_eq one.name other.name && bytes_eq one.url other.url && one.script == other.script && one.line == other.line) (one.column == other.column) e in
    let c = and_parts (bytes_eq one.name other.name && bytes_eq one.url other.url && one.script == other.script) (one.line == other.line) d.0 in
    let b = and_parts (bytes_eq one.name other.name && bytes_eq one.url other.url) (one.script == other.script) c.0 in
    let a = and_parts (bytes_eq one.name other.name) (bytes_eq one.url other.url) b.0 in
    let name : one.name ≡ other.name = (bytes_eq-Decides one.name other.name).0 a.0 in
    let url : one.url ≡ other.url = (bytes_eq-Decides one.url other.url).0 a.1 in
    λ i. record { name = name i; url = url i; script = eqb-true one.script other.script b.1 i; line = eqb-true one.line other.line c.1 i; column = eqb-true one.column other.column d.1 i }

same_itself : (one other : Entry) → one ≡ other → same_entry one other ≡ true
same_itself one other is =
    subst (λ e. same_entry one e ≡ true) is
    (and_from _ _ (and_from _ _ (and_from _ _ (and_from _ _ ((bytes_eq-Decides one.name one.name).1 refl) ((bytes_eq-Decides one.url one.url).1 refl))
    (eq-eqb one.script one.script refl)) (eq-eqb one.line one.line refl)) (eq-eqb one.column one.column refl))

-- where two tests agree, one takes the place of the other
first_case : (reason first rest : Option (List ℕ)) (b d : Bool) → (b ≡ true → d ≡ true) → (d ≡ true → b ≡ true) → cond b reason rest ≡ cond d reason (cond b first rest)
first_case reason first rest true true there back = refl
first_case reason first rest true false there back = let never : false ≡ true = there refl in absurd (cc never)
first_case reason first rest false true there back = let never : false ≡ true = back refl in absurd (cc never)
first_case reason first rest false false there back = refl

-- where two tests never both hold, either can come first
later_case : (reason first rest : Option (List ℕ)) (b d : Bool) → (b ≡ true → d ≡ true → ⊥) → cond b first (cond d reason rest) ≡ cond d reason (cond b first rest)
later_case reason first rest true true apart = absurd (apart refl refl)
later_case reason first rest true false apart = refl
later_case reason first rest false true apart = refl
later_case reason first rest false false apart = refl

-- the entry of a function is none of those after it
not_later : (f : Func) (funcs : List Func) (func : ℕ) → func < length funcs → AllByRecursion (λ other. entry f ≢ other) (map entry funcs) → entry_of f ≡ entry_at funcs func → ⊥
not_later f [] func there all is = absurd (omega (arith, there))
not_later f (g ∷ funcs) zero there all is =
    let tuple : Entry → List ℕ × List ℕ × ℕ × ℕ × ℕ = λ e. (e.name, e.url, e.script, e.line, e.column) in
    all.0 (ap tuple is)
not_later f (g ∷ funcs) (suc func) there all is = not_later f funcs func (omega (arith, there)) all.1 is

follows : (funcs : List Func) (codes : List Code) (func : ℕ) (code : Code) (reason : List ℕ) (at : Entry)
    → AllDiffer (map entry funcs) → length codes ≡ length funcs → func < length funcs → code.reason ≡ Some reason
    → reason_in funcs (slice_set codes func code) at ≡ cond (same_entry at (entry_at funcs func)) (Some reason) (reason_in funcs codes at)
follows [] codes func code reason at differ same there is = absurd (omega (arith, there))
follows (f ∷ funcs) [] func code reason at differ same there is = absurd (omega (arith, same))
follows (f ∷ funcs) (first ∷ codes) zero code reason at differ same there is =
    ap (λ r. cond (same_entry (entry_of f) at) r (reason_in funcs codes at)) is
    ∙ first_case (Some reason) first.reason (reason_in funcs codes at) (same_entry (entry_of f) at) (same_entry at (entry_of f))
    (λ e. same_itself at (entry_of f) (sym (same_is (entry_of f) at e))) (λ e. same_itself (entry_of f) at (sym (same_is at (entry_of f) e)))
follows (f ∷ funcs) (first ∷ codes) (suc func) code reason at differ same there is =
    ap (λ rest. cond (same_entry (entry_of f) at) first.reason rest) (follows funcs codes func code reason at differ.1 (omega (arith, same)) (omega (arith, there)) is)
    ∙ later_case (Some reason) first.reason (reason_in funcs codes at) (same_entry (entry_of f) at) (same_entry at (entry_at funcs func))
    (λ e g. not_later f funcs func (omega (arith, there)) differ.0 (same_is (entry_of f) at e ∙ same_is at (entry_at funcs func) g))

pub reasons_follow : ReasonsFollow
reasons_follow funcs codes func code reason at program same there is = follows funcs codes func code reason at program.entries same there is
