-- Strings in which no byte needs an escape.
use Rattle.std.proofs.Common.{◌≡◌, ◌≤◌, ◌<◌, ◌+◌, ◌/◌, ◌%◌, ◌==◌, ℕ, zero, suc, List, [], ◌∷◌, ◌++◌, Bool, true, false, cond, decimal, refl, sym, ap, ap₂, subst, arith, lt-ltb, mod-lt}
use Rattle.std.specs.Fmt.{digits, digits_onto, digit_glyph}
use Rattle.std.specs.List.{AllPass, AllByRecursion}
use Rattle.std.proofs.lemmas.List.Elements.{recursion_from_All}
use Rattle.std.proofs.lemmas.Bool.Decides.{nat_tests}
use Rattle.json.specs.Print.{escape, escape_byte}
use Rattle.json.proofs.Printed.Strings.{escape_byte_plain}
use Rattle.cpuprofile.specs.Escapes.{needs_no_escape}

no_control : (x : ℕ) → needs_no_escape x ≡ true → 32 ≤ x
no_control x h = grind (arith, nat_tests)

no_quote : (x : ℕ) → needs_no_escape x ≡ true → x ≡ 34 → ⊥
no_quote x h e = grind (arith, nat_tests)

no_backslash : (x : ℕ) → needs_no_escape x ≡ true → x ≡ 92 → ⊥
no_backslash x h e = grind (arith, nat_tests)

escape-each : (bytes : List ℕ) → AllByRecursion (λ b. needs_no_escape b ≡ true) bytes → escape bytes ≡ bytes
escape-each [] h = refl
escape-each (x ∷ bytes) h =
    ap₂ (λ (a b : List ℕ). a ++ b) (escape_byte_plain x (no_quote x h.0) (no_backslash x h.0) (no_control x h.0)) (escape-each bytes h.1)

pub escape-none : (bytes : List ℕ) → AllPass needs_no_escape bytes → escape bytes ≡ bytes
escape-none bytes h = escape-each bytes (recursion_from_All (λ b. needs_no_escape b ≡ true) bytes h)

escape_glyph : (d : ℕ) → d < 10 → escape_byte (digit_glyph false d) ≡ digit_glyph false d ∷ []
escape_glyph d h =
    let same : digit_glyph false d ≡ 48 + d = ap (λ b. cond b (48 + d) (87 + d)) (lt-ltb d 10 h) in
    subst (λ x. escape_byte x ≡ x ∷ []) (sym same) (escape_byte_plain (48 + d) (λ e. omega arith) (λ e. omega arith) (omega arith))

escape_cond : (b : Bool) (xs ys : List ℕ) → escape xs ≡ xs → escape ys ≡ ys → escape (cond b xs ys) ≡ cond b xs ys
escape_cond true xs ys h g = h
escape_cond false xs ys h g = g

escape_digits : (k n : ℕ) (acc : List ℕ) → escape acc ≡ acc → escape (digits_onto k 10 false n acc) ≡ digits_onto k 10 false n acc
escape_digits zero n acc h = h
escape_digits (suc k) n acc h =
    let more : escape (digit_glyph false (n % 10) ∷ acc) ≡ digit_glyph false (n % 10) ∷ acc = ap₂ (λ (a b : List ℕ). a ++ b) (escape_glyph (n % 10) (mod-lt n (omega arith))) h in
    escape_cond (n / 10 == 0) _ _ more (escape_digits k (n / 10) (digit_glyph false (n % 10) ∷ acc) more)

-- no digit needs an escape
pub escape-decimal : (n : ℕ) → escape (decimal n) ≡ decimal n
unfolding digits
escape-decimal n = escape_digits 64 n [] refl
