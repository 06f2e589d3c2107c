-- The words and numbers that several texts of records share: what is read is spelled so, and what is spelled so is read.
use Rattle.std.proofs.Common.{◌≡◌, ℕ, ◌^◌, ◌-◌, ◌<◌, List, Ok, Option, Some, None, refl, subst, arith, codes, decimal, inl, inr, lit<}
use Rattle.prof_base.specs.declared.ids.TheConstants.Micros.{MAX}
use Rattle.prof_base.specs.declared.interval.TheConstants.{MAX_INTERVAL}
use Rattle.prof_lines.specs.Words.{InRange, of_word, number_of, number_at}
use Rattle.prof_lines.specs.Spelled.{IsWord}
use Rattle.prof_lines.specs.Forms.{IsNaming, IsPlace}
use Rattle.prof_lines.proofs.Steps.{ok_same, bind_ok, chosen}
use Rattle.prof_lines.proofs.Places.{naming_place}
use Rattle.prof_lines.proofs.Numbers.{number_naming, number_place, decimal_word, decimal_is_no}
use Rattle.code_event.specs.declared.event.Mode.{Mode}
use Rattle.code_event.specs.declared.event.Mode.TheVariants.{Leaf, Caller}
use Rattle.run_schedule.specs.declared.limits.TheConstants.{MAX_PORT}
use Rattle.record_text.specs.declared.rule.Rule.{Rule}
use Rattle.record_text.specs.Words.{mode_word, mode_of, max_word, bound_of, IsBound, IsMax}

abbrev pub IsAny : {A : Type 0} → A → Type 0
IsAny x = Unit {0}

-- a value and the word that spells it
abbrev pub IsNamed : {A : Type 0} → (A → List ℕ) → A → List ℕ → Type 0
IsNamed word value text = IsAny value × (word value ≡ text)

mode_takes : (text : List ℕ) (value : Mode) → mode_of text ≡ Ok value → IsNamed mode_word value text
mode_takes text value h = elim (chosen text (codes "leaf") (Ok Leaf) _ value h) [
  | inl p ↦ subst (λ (m : Mode). IsNamed mode_word m text) (ok_same _ _ p.1) (tt, p.0)
  | inr q ↦ elim (chosen text (codes "caller") (Ok Caller) _ value q) [
    | inl p ↦ subst (λ (m : Mode). IsNamed mode_word m text) (ok_same _ _ p.1) (tt, p.0)
    | inr r ↦ absurd cc
  ]
]

mode_again : (value : Mode) → mode_of (mode_word value) ≡ Ok value
mode_again Leaf = refl
mode_again Caller = refl

pub mode_is_word : (value : Mode) → IsWord (mode_word value)
mode_is_word Leaf = record { some = lit< tt; plain = refl }
mode_is_word Caller = record { some = lit< tt; plain = refl }

pub mode_place : IsPlace (of_word mode_of) IsAny mode_word
mode_place = naming_place mode_of IsAny mode_word (record {
  takes = λ text value h. mode_takes text value h;
  again = λ value fits. mode_again value;
  plain = λ value fits. mode_is_word value;
})

wide : 2 ^ 32 - 1 < 2 ^ 64
wide = lit< tt

bound_number : (least : ℕ) (text : List ℕ) (value : Option ℕ) (n : ℕ) → number_of {C = Rule} least (2 ^ 32 - 1) text ≡ Ok n → Some n ≡ value → IsBound least value × (max_word value ≡ text)
bound_number least text value n h e =
    let t = (number_naming {C = Rule} least (2 ^ 32 - 1) wide).takes text n h in
    subst (λ (m : Option ℕ). IsBound least m × (max_word m ≡ text)) e (t.0, t.1)

pub bound_takes : (least : ℕ) (text : List ℕ) (value : Option ℕ) → bound_of least text ≡ Ok value → IsBound least value × (max_word value ≡ text)
bound_takes least text value h = elim (chosen text (codes "all") (Ok None) _ value h) [
  | inl p ↦ subst (λ (m : Option ℕ). IsBound least m × (max_word m ≡ text)) (ok_same _ _ p.1) (tt, p.0)
  | inr q ↦ let b = bind_ok (number_of least (2 ^ 32 - 1) text) _ value q in bound_number least text value b.0 b.1 (ok_same _ _ b.2)
]

pub bound_again : (least : ℕ) (value : Option ℕ) → IsBound least value → bound_of least (max_word value) ≡ Ok value
bound_again least None h = refl
bound_again least (Some n) h =
    let naming : IsNaming {C = Rule} (number_of least (2 ^ 32 - 1)) (InRange least (2 ^ 32 - 1)) decimal = number_naming least (2 ^ 32 - 1) wide in
    rw (decimal_is_no n (codes "all") (omega (arith, h.1)) refl, naming.again n h) refl

pub bound_is_word : (least : ℕ) (value : Option ℕ) → IsBound least value → IsWord (max_word value)
bound_is_word least None h = record { some = lit< tt; plain = refl }
bound_is_word least (Some n) h = decimal_word n (omega (arith, h.1))

pub max_place : IsPlace (of_word (bound_of 0)) IsMax max_word
max_place = naming_place (bound_of 0) IsMax max_word (record {
  takes = λ text value h. bound_takes 0 text value h;
  again = λ value fits. bound_again 0 value fits;
  plain = λ value fits. bound_is_word 0 value fits;
})

-- a place for a number in this range
abbrev pub IsNumberPlace : ℕ → ℕ → Type 0
IsNumberPlace least most = IsPlace {C = Rule} (number_at least most) (InRange least most) decimal

pub session_place : IsNumberPlace 1 (2 ^ 32 - 1)
session_place = number_place 1 (2 ^ 32 - 1) (lit< tt)

pub port_place : IsNumberPlace 0 MAX_PORT
port_place = number_place 0 MAX_PORT (lit< tt)

pub interval_place : IsNumberPlace 1 MAX_INTERVAL
interval_place = number_place 1 MAX_INTERVAL (lit< tt)

pub time_place : IsNumberPlace 0 MAX
time_place = number_place 0 MAX (lit< tt)
