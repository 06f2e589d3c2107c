-- The words and numbers in lines of programs: what is read is spelled so, and what is spelled so is read.
use Rattle.std.proofs.Common.{◌≡◌, ℕ, ◌+◌, ◌-◌, ◌^◌, ◌<◌, ◌≤◌, min, List, [], ◌∷◌, length, get_or, true, ◌&&◌, ◌==◌, nat_le, nat_lt, Option, Some, None, Ok, refl, sym, subst, arith, decimal, bytes_eq, position, lit<}
use Rattle.std.proofs.lemmas.Bool.{and_parts, eqb-true, leb-true, le-leb, ltb-true, lt-ltb}
use Rattle.std.proofs.lemmas.Bool.Decides.{nat_tests}
use Rattle.std.proofs.lemmas.List.Quantifiers.{position-Some}
use Rattle.std.proofs.lemmas.Slice.Eq.{bytes_eq-Decides}
use Rattle.prof_base.specs.Text.{IsText}
use Rattle.prof_base.specs.declared.ids.FuncId.{FuncId}
use Rattle.prof_lines.specs.Answers.{Front}
use Rattle.prof_lines.specs.Words.{InRange, IsLabel, number_of, number_at, label_at}
use Rattle.prof_lines.specs.Spelled.{IsWord, BeginsWith, quoted}
use Rattle.prof_lines.specs.Quoted.{quoted_at}
use Rattle.prof_lines.specs.Forms.{IsNaming, IsPlace}
use Rattle.prof_lines.proofs.Steps.{ok_same, bind_ok, guard_ok}
use Rattle.prof_lines.proofs.Places.{naming_place}
use Rattle.prof_lines.proofs.Numbers.{number_naming, number_place}
use Rattle.prof_lines.proofs.Labels.{label_place}
use Rattle.prof_lines.proofs.QuotedForms.{quoted_place}
use Rattle.guest_program.specs.declared.reg.TheConstants.Reg.{LAST}
use Rattle.guest_program.specs.declared.program.TheConstants.Program.{MAX_FUNCS}
use Rattle.guest_text.specs.declared.rule.Rule.{Rule}
use Rattle.guest_text.specs.ProgramLine.{MILLION, MAX_PLACE, reg_word, name_of, IsFuncOf, IsWithin, IsPlaceIn}
use Rattle.guest_text.specs.LineForms.{reg_of, reg_at, within, place_of, place_at, known, func_at}

-- a register in its range
abbrev pub IsReg : ℕ → Type 0
IsReg reg = reg ≤ LAST

-- a register, and the word that spells it
abbrev IsRegSpelled : List ℕ → ℕ → Type 0
IsRegSpelled text reg = IsReg reg × (reg_word reg ≡ text)

-- the two bytes of a register's word
reg_from : (r digit : ℕ) → (r == 114 && nat_le 48 digit && nat_le digit 55) ≡ true → IsRegSpelled (r ∷ digit ∷ []) (digit - 48)
reg_from r digit h =
    let a = and_parts (r == 114 && nat_le 48 digit) (nat_le digit 55) h in
    let b = and_parts (r == 114) (nat_le 48 digit) a.0 in
    let first : r ≡ 114 = eqb-true r 114 b.0 in
    let low : 48 ≤ digit = leb-true 48 digit b.1 in
    let high : digit ≤ 55 = leb-true digit 55 a.1 in
    let same : 48 + (digit - 48) ≡ digit = omega (arith, low) in
    (omega (arith, high), rw (same, first) refl)

reg_takes : (text : List ℕ) (reg : ℕ) → reg_of text ≡ Ok reg → IsRegSpelled text reg
reg_takes [] reg h = absurd cc
reg_takes (r ∷ []) reg h = absurd cc
reg_takes (r ∷ digit ∷ []) reg h =
    let g = guard_ok (r == 114 && nat_le 48 digit && nat_le digit 55) _ _ reg h in
    subst (IsRegSpelled (r ∷ digit ∷ [])) (ok_same _ _ g.1) (reg_from r digit g.0)
reg_takes (r ∷ digit ∷ b ∷ bytes) reg h = absurd cc

reg_again : (reg : ℕ) → IsReg reg → reg_of (reg_word reg) ≡ Ok reg
reg_again reg h =
    let same : (48 + reg) - 48 ≡ reg = omega arith in
    rw (le-leb 48 (48 + reg) (omega arith), le-leb (48 + reg) 55 (omega (arith, h)), same) refl

pub reg_is_word : (reg : ℕ) → IsReg reg → IsWord (reg_word reg)
reg_is_word reg h = record { some = lit< tt; plain = grind (arith, nat_tests) }

-- a register is read
pub reg_place : IsPlace {C = Rule} reg_at IsReg reg_word
reg_place = naming_place reg_of IsReg reg_word (record {
  takes = λ text reg h. reg_takes text reg h;
  again = λ reg fits. reg_again reg fits;
  plain = λ reg fits. reg_is_word reg fits;
})

within_takes : (size : Option ℕ) (n place : ℕ) → within size n ≡ Ok place → IsWithin size place × (n ≡ place)
within_takes None n place h = (tt, ok_same n place h)
within_takes (Some size) n place h =
    let g = guard_ok (nat_lt n size) (Ok n) _ place h in
    let same : n ≡ place = ok_same n place g.1 in
    (subst (λ (p : ℕ). p < size) same (ltb-true n size g.0), same)

within_again : (size : Option ℕ) (place : ℕ) → IsWithin size place → within size place ≡ Ok place
within_again None place h = refl
within_again (Some size) place h = rw (lt-ltb place size h) refl

-- the number of a place, in a body of any size
place_naming : IsNaming {C = Rule} (number_of 0 MAX_PLACE) (InRange 0 MAX_PLACE) decimal
place_naming = number_naming 0 MAX_PLACE (lit< tt)

place_takes : (size : Option ℕ) (text : List ℕ) (place : ℕ) → place_of size text ≡ Ok place → IsPlaceIn size place × (decimal place ≡ text)
place_takes size text place h =
    let a = bind_ok (number_of 0 MAX_PLACE text) _ place h in
    let t = place_naming.takes text a.0 a.1 in
    let w = within_takes size a.0 place a.2 in
    let is = subst (λ (p : ℕ). InRange 0 MAX_PLACE p × (decimal p ≡ text)) w.1 t in
    ((is.0, w.0), is.1)

place_again : (size : Option ℕ) (place : ℕ) → IsPlaceIn size place → place_of size (decimal place) ≡ Ok place
place_again size place h = rw (place_naming.again place h.0, within_again size place h.1) refl

-- a place in a body of this size is read
pub place_place : (size : Option ℕ) → IsPlace {C = Rule} (place_at size) (IsPlaceIn size) decimal
place_place size = naming_place (place_of size) (IsPlaceIn size) decimal (record {
  takes = λ text place h. place_takes size text place h;
  again = λ place fits. place_again size place fits;
  plain = λ place fits. place_naming.plain place fits.0;
})

-- what is read as a label is one
pub label_read : (bytes : List ℕ) (x : Front (List ℕ)) → label_at {C = Rule} bytes ≡ Ok x → IsLabel x.0
label_read bytes x h = let place : IsPlace {C = Rule} label_at IsLabel (λ label. label) = label_place in (place.takes bytes x.1 x.0 h).0

-- a function that has a label
abbrev pub IsKnown : List (List ℕ) → FuncId → Type 0
IsKnown labels func = IsFuncOf labels func.0

-- the word that spells it
abbrev pub func_word : List (List ℕ) → FuncId → List ℕ
func_word labels func = name_of labels func.0

-- there are at most as many labels as a program may have functions
abbrev pub AreFew : List (List ℕ) → Type 0
AreFew labels = length labels ≤ MAX_FUNCS

-- a function with this label
abbrev IsKnownAs : List (List ℕ) → List ℕ → FuncId → Type 0
IsKnownAs labels label func = IsKnown labels func × (func_word labels func ≡ label)

-- the first label that is this one names a function
known_from : (labels : List (List ℕ)) → AreFew labels → (label : List ℕ) → IsLabel label
    → (number : ℕ) → position (λ other. bytes_eq other label) labels ≡ Some number → IsKnownAs labels label (record { 0 = min number MAX_FUNCS })
known_from labels few label is number h =
    let p = position-Some (λ other. bytes_eq other label) labels number [] h in
    let name : name_of labels number ≡ label = (bytes_eq-Decides (get_or labels number []) label).0 p.1 in
    let same : min number MAX_FUNCS ≡ number = omega (arith, p.0, few) in
    let known_as : IsFuncOf labels number = record { label = subst IsLabel (sym name) is; first = rw name h } in
    subst (λ (n : ℕ). IsFuncOf labels n × (name_of labels n ≡ label)) (sym same) (known_as, name)

known_takes : (labels : List (List ℕ)) → AreFew labels → (label : List ℕ) → IsLabel label
    → (found : Option ℕ) → position (λ other. bytes_eq other label) labels ≡ found → (func : FuncId) → known found ≡ Ok func → IsKnownAs labels label func
known_takes labels few label is None e func h = absurd cc
known_takes labels few label is (Some number) e func h = subst (IsKnownAs labels label) (ok_same _ _ h) (known_from labels few label is number e)

func_takes : (labels : List (List ℕ)) → AreFew labels → (bytes rest : List ℕ) (func : FuncId) → func_at labels bytes ≡ Ok (func, rest)
    → IsKnown labels func × BeginsWith (func_word labels func) rest bytes
unfolding func_at
func_takes labels few bytes rest func h =
    let place : IsPlace {C = Rule} label_at IsLabel (λ label. label) = label_place in
    let a = bind_ok (label_at bytes) _ _ h in
    let l = place.takes bytes a.0.1 a.0.0 a.1 in
    let b = bind_ok (known (position (λ other. bytes_eq other a.0.0) labels)) _ _ a.2 in
    let k = known_takes labels few a.0.0 l.0 _ refl b.0 b.1 in
    subst (λ (x : Front FuncId). IsKnown labels x.0 × BeginsWith (func_word labels x.0) x.1 bytes) (ok_same _ _ b.2)
    (k.0, subst (λ (z : List ℕ). BeginsWith z a.0.1 bytes) (sym k.1) l.1)

func_again : (labels : List (List ℕ)) → AreFew labels → (bytes rest : List ℕ) (func : FuncId) → IsKnown labels func
    → BeginsWith (func_word labels func) rest bytes → func_at labels bytes ≡ Ok (func, rest)
unfolding func_at
func_again labels few bytes rest func h s =
    let place : IsPlace {C = Rule} label_at IsLabel (λ label. label) = label_place in
    let p = position-Some (λ other. bytes_eq other (name_of labels func.0)) labels func.0 [] h.first in
    let same : min func.0 MAX_FUNCS ≡ func.0 = omega (arith, p.0, few) in
    rw (place.again bytes rest (name_of labels func.0) h.label s, h.first, same) refl

-- a function that one of the labels names is read
pub func_place : (labels : List (List ℕ)) → AreFew labels → IsPlace {C = Rule} (func_at labels) (IsKnown labels) (func_word labels)
func_place labels few = record {
  takes = λ bytes rest func h. func_takes labels few bytes rest func h;
  again = λ bytes rest func fits s. func_again labels few bytes rest func fits s;
}

-- a place for a number in this range
abbrev IsNumberPlace : ℕ → ℕ → Type 0
IsNumberPlace least most = IsPlace {C = Rule} (number_at least most) (InRange least most) decimal

-- what may be put into a register
pub value_place : IsNumberPlace 0 (2 ^ 64 - 1)
value_place = number_place 0 (2 ^ 64 - 1) (lit< tt)

pub script_place : IsNumberPlace 0 (2 ^ 32 - 1)
script_place = number_place 0 (2 ^ 32 - 1) (lit< tt)

pub million_place : IsNumberPlace 1 MILLION
million_place = number_place 1 MILLION (lit< tt)

pub text_place : IsPlace {C = Rule} quoted_at IsText quoted
text_place = quoted_place
