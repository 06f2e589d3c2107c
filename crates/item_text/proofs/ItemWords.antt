-- The words and numbers in lines of item lists: what is read is spelled so, and what is spelled so is read.
use Rattle.std.proofs.Common.{◌≡◌, ℕ, ◌^◌, ◌-◌, ◌<◌, List, map, Bool, true, false, Ok, Option, Some, None, IfSome, refl, subst, arith, codes, decimal, inl, inr, lit<}
use Rattle.prof_base.specs.Text.{IsText}
use Rattle.prof_base.specs.declared.interval.TheConstants.{MAX_ROUNDED}
use Rattle.prof_base.specs.declared.ids.SessionId.{SessionId}
use Rattle.prof_lines.specs.Words.{InRange, of_word, number_of, number_at, numbers_at}
use Rattle.prof_lines.specs.Quoted.{quoted_at}
use Rattle.prof_lines.specs.Spelled.{IsWord, AreNumbers, quoted}
use Rattle.prof_lines.specs.Forms.{IsNaming, IsPlace, IsForm}
use Rattle.prof_lines.proofs.Steps.{ok_same, bind_ok, chosen}
use Rattle.prof_lines.proofs.Places.{naming_place}
use Rattle.prof_lines.proofs.Numbers.{number_naming, number_place, decimal_word, decimal_is_no}
use Rattle.prof_lines.proofs.QuotedForms.{quoted_place}
use Rattle.prof_lines.proofs.EndForms.{numbers_form}
use Rattle.code_event.specs.declared.tick.VmState.{VmState}
use Rattle.code_event.specs.declared.tick.VmState.TheVariants as state
use Rattle.code_event.specs.declared.tick.TheConstants.Frames.{MAX_LEN}
use Rattle.record_text.specs.declared.rule.Rule.{Rule}
use Rattle.record_text.specs.Words.{max_word, bound_of, IsBound}
use Rattle.record_text.proofs.RecordWords.{IsAny, IsNamed, IsNumberPlace, bound_takes, bound_again}
use Rattle.item_text.specs.ItemLine.{MAX_ADDRESS, MAX_LINE, MAX_INDEX, state_word, hit_word, files_word, only_word, IsOnly}
use Rattle.item_text.specs.ItemForms.{state_of, hit_of, files_of, numbered, only_of}

state_takes : (text : List ℕ) (value : VmState) → state_of text ≡ Ok value → IsNamed state_word value text
state_takes text value h = elim (chosen text (codes "js") (Ok state.Js) _ value h) [
  | inl p ↦ subst (λ (m : VmState). IsNamed state_word m text) (ok_same _ _ p.1) (tt, p.0)
  | inr q ↦ elim (chosen text (codes "idle") (Ok state.Idle) _ value q) [
    | inl p ↦ subst (λ (m : VmState). IsNamed state_word m text) (ok_same _ _ p.1) (tt, p.0)
    | inr r ↦ elim (chosen text (codes "native") (Ok state.Native) _ value r) [
      | inl p ↦ subst (λ (m : VmState). IsNamed state_word m text) (ok_same _ _ p.1) (tt, p.0)
      | inr s ↦ elim (chosen text (codes "gc") (Ok state.Gc) _ value s) [
        | inl p ↦ subst (λ (m : VmState). IsNamed state_word m text) (ok_same _ _ p.1) (tt, p.0)
        | inr t ↦ absurd cc
      ]
    ]
  ]
]

state_again : (value : VmState) → state_of (state_word value) ≡ Ok value
state_again state.Js = refl
state_again state.Idle = refl
state_again state.Native = refl
state_again state.Gc = refl

pub state_is_word : (value : VmState) → IsWord (state_word value)
state_is_word state.Js = record { some = lit< tt; plain = refl }
state_is_word state.Idle = record { some = lit< tt; plain = refl }
state_is_word state.Native = record { some = lit< tt; plain = refl }
state_is_word state.Gc = record { some = lit< tt; plain = refl }

pub state_place : IsPlace (of_word state_of) IsAny state_word
state_place = naming_place state_of IsAny state_word (record {
  takes = λ text value h. state_takes text value h;
  again = λ value fits. state_again value;
  plain = λ value fits. state_is_word value;
})

hit_takes : (text : List ℕ) (value : Bool) → hit_of text ≡ Ok value → IsNamed hit_word value text
hit_takes text value h = elim (chosen text (codes "hit") (Ok true) _ value h) [
  | inl p ↦ subst (λ (m : Bool). IsNamed hit_word m text) (ok_same _ _ p.1) (tt, p.0)
  | inr q ↦ elim (chosen text (codes "nohit") (Ok false) _ value q) [
    | inl p ↦ subst (λ (m : Bool). IsNamed hit_word m text) (ok_same _ _ p.1) (tt, p.0)
    | inr r ↦ absurd cc
  ]
]

hit_again : (value : Bool) → hit_of (hit_word value) ≡ Ok value
hit_again true = refl
hit_again false = refl

pub hit_is_word : (value : Bool) → IsWord (hit_word value)
hit_is_word true = record { some = lit< tt; plain = refl }
hit_is_word false = record { some = lit< tt; plain = refl }

pub hit_place : IsPlace (of_word hit_of) IsAny hit_word
hit_place = naming_place hit_of IsAny hit_word (record {
  takes = λ text value h. hit_takes text value h;
  again = λ value fits. hit_again value;
  plain = λ value fits. hit_is_word value;
})

files_takes : (text : List ℕ) (value : Bool) → files_of text ≡ Ok value → IsNamed files_word value text
files_takes text value h = elim (chosen text (codes "files") (Ok true) _ value h) [
  | inl p ↦ subst (λ (m : Bool). IsNamed files_word m text) (ok_same _ _ p.1) (tt, p.0)
  | inr q ↦ elim (chosen text (codes "none") (Ok false) _ value q) [
    | inl p ↦ subst (λ (m : Bool). IsNamed files_word m text) (ok_same _ _ p.1) (tt, p.0)
    | inr r ↦ absurd cc
  ]
]

files_again : (value : Bool) → files_of (files_word value) ≡ Ok value
files_again true = refl
files_again false = refl

pub files_is_word : (value : Bool) → IsWord (files_word value)
files_is_word true = record { some = lit< tt; plain = refl }
files_is_word false = record { some = lit< tt; plain = refl }

pub files_place : IsPlace (of_word files_of) IsAny files_word
files_place = naming_place files_of IsAny files_word (record {
  takes = λ text value h. files_takes text value h;
  again = λ value fits. files_again value;
  plain = λ value fits. files_is_word value;
})

only_by : (text : List ℕ) (number : Option ℕ) → IsBound 1 number → max_word number ≡ text → IsOnly (numbered number) × (only_word (numbered number) ≡ text)
only_by text None h e = (tt, e)
only_by text (Some n) h e = (h, e)

only_takes : (text : List ℕ) (value : Option SessionId) → only_of text ≡ Ok value → IsOnly value × (only_word value ≡ text)
only_takes text value h =
    let b = bind_ok (bound_of 1 text) _ value h in
    let t = bound_takes 1 text b.0 b.1 in
    subst (λ (m : Option SessionId). IsOnly m × (only_word m ≡ text)) (ok_same _ _ b.2) (only_by text b.0 t.0 t.1)

only_again : (value : Option SessionId) → IsOnly value → only_of (only_word value) ≡ Ok value
only_again None h = refl
only_again (Some session) h = rw (bound_again 1 (Some session.0) h) refl

pub only_is_word : (value : Option SessionId) → IsOnly value → IsWord (only_word value)
only_is_word None h = record { some = lit< tt; plain = refl }
only_is_word (Some session) h = decimal_word session.0 (omega (arith, h.1))

pub only_place : IsPlace (of_word only_of) IsOnly only_word
only_place = naming_place only_of IsOnly only_word (record {
  takes = λ text value h. only_takes text value h;
  again = λ value fits. only_again value fits;
  plain = λ value fits. only_is_word value fits;
})

pub address_place : IsNumberPlace 0 MAX_ADDRESS
address_place = number_place 0 MAX_ADDRESS (lit< tt)

pub line_place : IsNumberPlace 0 MAX_LINE
line_place = number_place 0 MAX_LINE (lit< tt)

pub index_place : IsNumberPlace 0 MAX_INDEX
index_place = number_place 0 MAX_INDEX (lit< tt)

pub func_place : IsNumberPlace 0 255
func_place = number_place 0 255 (lit< tt)

pub script_place : IsNumberPlace 0 (2 ^ 32 - 1)
script_place = number_place 0 (2 ^ 32 - 1) (lit< tt)

pub rounded_place : IsNumberPlace 0 MAX_ROUNDED
rounded_place = number_place 0 MAX_ROUNDED (lit< tt)

pub text_place : IsPlace {C = Rule} quoted_at IsText quoted
text_place = quoted_place

pub frames_form : IsForm {C = Rule} (numbers_at 0 MAX_ADDRESS MAX_LEN) (AreNumbers 0 MAX_ADDRESS MAX_LEN) (λ frames. map decimal frames)
frames_form = numbers_form 0 MAX_ADDRESS MAX_LEN (lit< tt)
