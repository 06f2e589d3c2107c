-- Two functions' lines have the same entry exactly where their entries are the same word.
use Rattle.std.proofs.Common.{◌≡◌, ◌∙◌, ℕ, ◌^◌, ◌-◌, List, [], ◌∷◌, Bool, true, false, ◌&&◌, ◌==◌, refl, sym, ap, subst, lit<, eq-eqb, bytes_eq, decimal, ◌<◌}
use Rattle.std.proofs.lemmas.Bool.{and_parts, eqb-true}
use Rattle.std.proofs.lemmas.Slice.Eq.{bytes_eq-Decides}
use Rattle.prof_lines.specs.Answers.{Reader, Front}
use Rattle.prof_lines.specs.Canonical.{further}
use Rattle.prof_lines.specs.Words.{InRange, number_at}
use Rattle.prof_lines.specs.Forms.{IsPlace}
use Rattle.prof_lines.specs.Spelled.{BeginsWith, HasWords, quoted}
use Rattle.prof_lines.proofs.Canonical.{further_has}
use Rattle.prof_lines.proofs.Numbers.{number_place}
use Rattle.prof_lines.proofs.QuotedForms.{quoted_place}
use Rattle.prof_lines.proofs.Steps.{ok_same}
use Rattle.guest_text.specs.declared.program_line.Head.{Head}
use Rattle.guest_text.specs.declared.rule.Rule.{Rule}
use Rattle.guest_text.specs.ProgramLine.{MILLION, entry_words, IsHead}
use Rattle.guest_text.specs.ProgramRules.{same_entry}
use Rattle.guest_text.specs.Draft.{entry_key}

-- a place reads one value at most
one_value : {A C : Type 0} (read : Reader (Front A) C) (Fits : A → Type 0) (word : A → List ℕ) → IsPlace read Fits word → (bytes rest others : List ℕ) (one other : A)
    → Fits one → Fits other → BeginsWith (word one) rest bytes → BeginsWith (word other) others bytes → (one ≡ other) × (rest ≡ others)
one_value read Fits word place bytes rest others one other fits fits_too s t =
    let same = ok_same _ _ (sym (place.again bytes rest one fits s) ∙ place.again bytes others other fits_too t) in
    (ap (λ (x : Front _). x.0) same, ap (λ (x : Front _). x.1) same)

-- the same name, url, script, line and column
abbrev pub SameEntry : Head → Head → Type 0
SameEntry one other = (one.name ≡ other.name) × (one.url ≡ other.url) × (one.script ≡ other.script) × (one.line ≡ other.line) × (one.column ≡ other.column)

key_has : (head : Head) → HasWords (entry_words head []) (entry_key head)
key_has head = further_has (entry_words head [])

-- entries that are the same word are the same
key_same : (one other : Head) → IsHead one → IsHead other → entry_key one ≡ entry_key other → SameEntry one other
key_same one other is is_too same =
    let number : (least most : ℕ) → most < 2 ^ 64 → IsPlace {C = Rule} (number_at least most) (InRange least most) decimal = λ least most h. number_place least most h in
    let s = key_has one in
    let t : HasWords (entry_words other []) (entry_key one) = subst (HasWords (entry_words other [])) (sym same) (key_has other) in
    let name = one_value _ _ _ (quoted_place {C = Rule}) (entry_key one) s.0 t.0 one.name other.name is.name is_too.name s.1 t.1 in
    let url = one_value _ _ _ (quoted_place {C = Rule}) s.0 s.2.0 t.2.0 one.url other.url is.url is_too.url s.2.1 (subst (BeginsWith (quoted other.url) t.2.0) (sym name.1) t.2.1) in
    let script =
    one_value _ _ _ (number 0 (2 ^ 32 - 1) (lit< tt)) s.2.0 s.2.2.0 t.2.2.0 one.script other.script is.script is_too.script s.2.2.1
    (subst (BeginsWith (decimal other.script) t.2.2.0) (sym url.1) t.2.2.1) in
    let begins =
    one_value _ _ _ (number 1 MILLION (lit< tt)) s.2.2.0 s.2.2.2.0 t.2.2.2.0 one.line other.line is.begins is_too.begins s.2.2.2.1
    (subst (BeginsWith (decimal other.line) t.2.2.2.0) (sym script.1) t.2.2.2.1) in
    let column =
    one_value _ _ _ (number 1 MILLION (lit< tt)) s.2.2.2.0 s.2.2.2.2.0 t.2.2.2.2.0 one.column other.column is.column is_too.column s.2.2.2.2.1
    (subst (BeginsWith (decimal other.column) t.2.2.2.2.0) (sym begins.1) t.2.2.2.2.1) in
    (name.0, url.0, script.0, begins.0, column.0)

abbrev key_of : List ℕ → List ℕ → ℕ → ℕ → ℕ → List ℕ
key_of name url script begins column = further (quoted name ∷ quoted url ∷ decimal script ∷ decimal begins ∷ decimal column ∷ [])

-- the same entries are the same word
same_key : (one other : Head) → SameEntry one other → entry_key one ≡ entry_key other
same_key one other same = rw (same.0, same.1, same.2, same.3, same.4) refl

-- what the test of entries says
entry_tested : (one other : Head) → same_entry one other ≡ true → SameEntry one other
entry_tested one other h =
    let a = and_parts (bytes_eq one.name other.name && bytes_eq one.url other.url && one.script == other.script && one.line == other.line) (one.column == other.column) h in
    let b = and_parts (bytes_eq one.name other.name && bytes_eq one.url other.url && one.script == other.script) (one.line == other.line) a.0 in
    let c = and_parts (bytes_eq one.name other.name && bytes_eq one.url other.url) (one.script == other.script) b.0 in
    let d = and_parts (bytes_eq one.name other.name) (bytes_eq one.url other.url) c.0 in
    ((bytes_eq-Decides one.name other.name).0 d.0, (bytes_eq-Decides one.url other.url).0 d.1, eqb-true _ _ c.1, eqb-true _ _ b.1, eqb-true _ _ a.1)

entry_test : (one other : Head) → SameEntry one other → same_entry one other ≡ true
entry_test one other same =
    rw ((bytes_eq-Decides one.name other.name).1 same.0, (bytes_eq-Decides one.url other.url).1 same.1, eq-eqb _ _ same.2, eq-eqb _ _ same.3, eq-eqb _ _ same.4) refl

tests_agree : (one other : Bool) → (one ≡ true → other ≡ true) → (other ≡ true → one ≡ true) → one ≡ other
tests_agree true other f g = sym (f refl)
tests_agree false true f g = g refl
tests_agree false false f g = refl

-- two entries are the same word just where the test of entries says that they are the same
pub keys_tell : (one other : Head) → IsHead one → IsHead other → bytes_eq (entry_key one) (entry_key other) ≡ same_entry one other
keys_tell one other is is_too =
    tests_agree (bytes_eq (entry_key one) (entry_key other)) (same_entry one other)
    (λ h. entry_test one other (key_same one other is is_too ((bytes_eq-Decides (entry_key one) (entry_key other)).0 h)))
    (λ h. (bytes_eq-Decides (entry_key one) (entry_key other)).1 (same_key one other (entry_tested one other h)))
