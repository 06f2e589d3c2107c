-- A number in its range is read from its decimal text, and from nothing else.
use Rattle.std.proofs.Common.{◌≡◌, ℕ, ◌^◌, ◌≤◌, ◌<◌, List, [], ◌∷◌, length, get_or, true, false, not, ◌&&◌, ◌||◌, ◌==◌, nat_le, nat_lt, Ok, refl, sym, ap, ◌∙◌, arith, subst, rules, decimal, bytes_eq, slice_index, inl, inr}
use Rattle.std.specs.List.{list_all}
use Rattle.std.proofs.lemmas.Bool.{and_parts, cases_lt, le-leb, leb-true, lt-ltb, ltb-true, false_from_ne_true}
use Rattle.std.proofs.lemmas.Bool.Decides.{nat_tests}
use Rattle.std.proofs.lemmas.Slice.Eq.{bytes_eq-Decides}
use Rattle.std.proofs.lemmas.Str.Parse.{IsNumeralModel, numerals_by_fold}
use Rattle.std.proofs.lemmas.Fmt.{digits_decimal, digits_value-decimal, decimal_nonempty, first_decimal, decimal_digit, decimal-digits_value}
use Rattle.prof_lines.specs.Words.{is_plain, is_digit, is_numeral, value_from, number_of, number_at, InRange}
use Rattle.prof_lines.specs.Spelled.{IsWord}
use Rattle.prof_lines.specs.Forms.{IsNaming, IsPlace}
use Rattle.prof_lines.proofs.Steps.{guard_ok}
use Rattle.prof_lines.proofs.Places.{naming_place}

-- digits and their value are those of std's decimal texts
pub own : IsNumeralModel (λ digits. list_all is_digit digits ≡ true) (value_from 0)
own = numerals_by_fold _ (search rules) value_from (search rules)

digit_plain : (b : ℕ) → is_digit b ≡ true → is_plain b ≡ true
digit_plain b h = grind (arith, nat_tests)

digits_plain : (digits : List ℕ) → list_all is_digit digits ≡ true → list_all is_plain digits ≡ true
digits_plain [] h = refl
digits_plain (b ∷ digits) h = let f = and_parts (is_digit b) (list_all is_digit digits) h in rw (digit_plain b f.0, digits_plain digits f.1) refl

pub decimal_word : (n : ℕ) → n < 2 ^ 64 → IsWord (decimal n)
decimal_word n h = record { some = decimal_nonempty n h; plain = digits_plain (decimal n) (digits_decimal own n h) }

-- no zero stands first, or it is alone
decimal_leads : (n : ℕ) → n < 2 ^ 64 → (length (decimal n) == 1 || not (slice_index (decimal n) 0 == 48)) ≡ true
decimal_leads n h = elim (cases_lt 0 n) [
  | inl lt ↦ let f : 48 < slice_index (decimal n) 0 = first_decimal n lt h in grind (arith, nat_tests)
  | inr le ↦ rw (decimal_digit n (omega arith)) refl
]

decimal_numeral : (n : ℕ) → n < 2 ^ 64 → is_numeral (decimal n) ≡ true
decimal_numeral n h = rw (lt-ltb 0 (length (decimal n)) (decimal_nonempty n h), digits_decimal own n h, decimal_leads n h) refl

number_of_again : {C : Type 0} (least most n : ℕ) → least ≤ n → n ≤ most → n < 2 ^ 64 → number_of {C = C} least most (decimal n) ≡ Ok n
unfolding number_of
number_of_again least most n low high h = rw (decimal_numeral n h, digits_value-decimal own n h, le-leb least n low, le-leb n most high) refl

alone : (word : List ℕ) → (length word == 1 || not (slice_index word 0 == 48)) ≡ true → get_or word 0 0 ≡ 48 → length word ≡ 1
alone word h e = grind (arith, nat_tests)

numeral_parts : (word : List ℕ) → is_numeral word ≡ true → (0 < length word) × (list_all is_digit word ≡ true) × (get_or word 0 0 ≡ 48 → length word ≡ 1)
numeral_parts word h =
    let a = and_parts (nat_lt 0 (length word) && list_all is_digit word) (length word == 1 || not (slice_index word 0 == 48)) h in
    let b = and_parts (nat_lt 0 (length word)) (list_all is_digit word) a.0 in
    (ltb-true 0 (length word) b.0, b.1, alone word a.1)

-- a word that is read as a number is its decimal text
number_of_takes : {C : Type 0} (least most : ℕ) (word : List ℕ) (n : ℕ) → most < 2 ^ 64 → number_of {C = C} least most word ≡ Ok n → InRange least most n × (decimal n ≡ word)
unfolding number_of
number_of_takes least most word n small h =
    let v = value_from 0 word in
    let g = guard_ok (is_numeral word && nat_le least v && nat_le v most) (Ok v) _ n h in
    let a = and_parts (is_numeral word && nat_le least v) (nat_le v most) g.0 in
    let b = and_parts (is_numeral word) (nat_le least v) a.0 in
    let p = numeral_parts word b.0 in
    let is : v ≡ n = cc in
    let high : v ≤ most = leb-true v most a.1 in
    let low : least ≤ v = leb-true least v b.1 in
    let text : decimal v ≡ word = decimal-digits_value own word p.1 p.0 p.2 (omega (arith, high, small)) in
    ((omega (arith, low, is), omega (arith, high, is)), ap decimal (sym is) ∙ text)

pub number_naming : {C : Type 0} (least most : ℕ) → most < 2 ^ 64 → IsNaming {C = C} (number_of least most) (InRange least most) decimal
number_naming least most small = record {
  takes = λ text n h. number_of_takes least most text n small h;
  again = λ n fits. number_of_again least most n fits.0 fits.1 (omega (arith, fits.1, small));
  plain = λ n fits. decimal_word n (omega (arith, fits.1, small));
}

pub number_place : {C : Type 0} (least most : ℕ) → most < 2 ^ 64 → IsPlace {C = C} (number_at least most) (InRange least most) decimal
unfolding number_at
number_place least most small = naming_place (number_of least most) (InRange least most) decimal (number_naming least most small)

-- a number is no name that has another byte than digits
pub decimal_is_no : (n : ℕ) (name : List ℕ) → n < 2 ^ 64 → list_all is_digit name ≡ false → bytes_eq (decimal n) name ≡ false
decimal_is_no n name h other =
    false_from_ne_true (bytes_eq (decimal n) name) (λ e.
    let same : decimal n ≡ name = (bytes_eq-Decides (decimal n) name).0 e in
    let digits : list_all is_digit name ≡ true = subst (λ (z : List ℕ). list_all is_digit z ≡ true) same (digits_decimal own n h) in
    absurd cc)
