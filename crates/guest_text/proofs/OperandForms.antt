-- The forms of the words after an operation's name, where operations share them: what is read is spelled so, and what is spelled so is read.
use Rattle.std.proofs.Common.{◌≡◌, ℕ, List, [], ◌∷◌, Ok, refl, subst, decimal}
use Rattle.prof_base.specs.Text.{IsText}
use Rattle.prof_base.specs.declared.ids.FuncId.{FuncId}
use Rattle.prof_lines.specs.Words.{InRange}
use Rattle.prof_lines.specs.Spelled.{HasWords, quoted}
use Rattle.prof_lines.specs.Forms.{IsPlace, Wording, IsForm}
use Rattle.prof_lines.proofs.Steps.{ok_same}
use Rattle.prof_lines.proofs.Places.{place_step, end_step}
use Rattle.prof_lines.proofs.Ends.{end_again}
use Rattle.guest_text.specs.declared.rule.Rule.{Rule}
use Rattle.guest_text.specs.ProgramLine.{MILLION, reg_word}
use Rattle.guest_text.specs.LineForms.{regs_at, target_at, reason_at, steps_at}
use Rattle.guest_text.proofs.ProgramWords.{IsReg, IsKnown, func_word, AreFew, reg_place, func_place, million_place, text_place}

-- two registers, and their words
abbrev pub AreRegs : ℕ × ℕ → Type 0
AreRegs x = IsReg x.0 × IsReg x.1

abbrev pub reg_words : Wording (ℕ × ℕ)
reg_words x = reg_word x.0 ∷ reg_word x.1 ∷ []

regs_takes : (bytes : List ℕ) (x : ℕ × ℕ) → regs_at bytes ≡ Ok x → AreRegs x × HasWords (reg_words x) bytes
unfolding regs_at
regs_takes bytes x h =
    let a = place_step _ _ _ reg_place bytes _ x h in
    let b = place_step _ _ _ reg_place a.0.1 _ x a.3 in
    let e = end_step b.0.1 _ x b.3 in
    subst (λ (y : ℕ × ℕ). AreRegs y × HasWords (reg_words y) bytes) (ok_same _ _ e.1) ((a.1, b.1), (a.0.1, a.2, (b.0.1, b.2, e.0)))

regs_again : (bytes : List ℕ) (x : ℕ × ℕ) → AreRegs x → HasWords (reg_words x) bytes → regs_at bytes ≡ Ok x
unfolding regs_at
regs_again bytes x fits s = rw (reg_place.again bytes s.0 x.0 fits.0 s.1, reg_place.again s.0 s.2.0 x.1 fits.1 s.2.1, end_again {C = Rule} s.2.0 s.2.2) refl

pub regs_form : IsForm {C = Rule} regs_at AreRegs reg_words
regs_form = record { takes = λ bytes x h. regs_takes bytes x h; again = λ bytes x fits s. regs_again bytes x fits s }

-- the words of a function alone
abbrev pub target_words : List (List ℕ) → Wording FuncId
target_words labels func = func_word labels func ∷ []

target_takes : (labels : List (List ℕ)) → AreFew labels → (bytes : List ℕ) (func : FuncId) → target_at labels bytes ≡ Ok func
    → IsKnown labels func × HasWords (target_words labels func) bytes
unfolding target_at
target_takes labels few bytes func h =
    let a = place_step _ _ _ (func_place labels few) bytes _ func h in
    let e = end_step a.0.1 _ func a.3 in
    subst (λ (f : FuncId). IsKnown labels f × HasWords (target_words labels f) bytes) (ok_same _ _ e.1) (a.1, (a.0.1, a.2, e.0))

target_again : (labels : List (List ℕ)) → AreFew labels → (bytes : List ℕ) (func : FuncId) → IsKnown labels func
    → HasWords (target_words labels func) bytes → target_at labels bytes ≡ Ok func
unfolding target_at
target_again labels few bytes func fits s =
    let first : IsPlace {C = Rule} _ _ _ = func_place labels few in
    rw (first.again bytes s.0 func fits s.1, end_again {C = Rule} s.0 s.2) refl

pub target_form : (labels : List (List ℕ)) → AreFew labels → IsForm {C = Rule} (target_at labels) (IsKnown labels) (target_words labels)
target_form labels few = record {
  takes = λ bytes func h. target_takes labels few bytes func h;
  again = λ bytes func fits s. target_again labels few bytes func fits s;
}

-- a function and a reason, and their words
abbrev pub IsReason : List (List ℕ) → FuncId × List ℕ → Type 0
IsReason labels x = IsKnown labels x.0 × IsText x.1

abbrev pub reason_words : List (List ℕ) → Wording (FuncId × List ℕ)
reason_words labels x = func_word labels x.0 ∷ quoted x.1 ∷ []

reason_takes : (labels : List (List ℕ)) → AreFew labels → (bytes : List ℕ) (x : FuncId × List ℕ) → reason_at labels bytes ≡ Ok x
    → IsReason labels x × HasWords (reason_words labels x) bytes
unfolding reason_at
reason_takes labels few bytes x h =
    let a = place_step _ _ _ (func_place labels few) bytes _ x h in
    let b = place_step _ _ _ text_place a.0.1 _ x a.3 in
    let e = end_step b.0.1 _ x b.3 in
    subst (λ (y : FuncId × List ℕ). IsReason labels y × HasWords (reason_words labels y) bytes) (ok_same _ _ e.1) ((a.1, b.1), (a.0.1, a.2, (b.0.1, b.2, e.0)))

reason_again : (labels : List (List ℕ)) → AreFew labels → (bytes : List ℕ) (x : FuncId × List ℕ) → IsReason labels x
    → HasWords (reason_words labels x) bytes → reason_at labels bytes ≡ Ok x
unfolding reason_at
reason_again labels few bytes x fits s =
    let first : IsPlace {C = Rule} _ _ _ = func_place labels few in
    rw (first.again bytes s.0 x.0 fits.0 s.1, text_place.again s.0 s.2.0 x.1 fits.1 s.2.1, end_again {C = Rule} s.2.0 s.2.2) refl

pub reason_form : (labels : List (List ℕ)) → AreFew labels → IsForm {C = Rule} (reason_at labels) (IsReason labels) (reason_words labels)
reason_form labels few = record {
  takes = λ bytes x h. reason_takes labels few bytes x h;
  again = λ bytes x fits s. reason_again labels few bytes x fits s;
}

abbrev pub step_words : Wording ℕ
step_words steps = decimal steps ∷ []

steps_takes : (bytes : List ℕ) (steps : ℕ) → steps_at bytes ≡ Ok steps → InRange 1 MILLION steps × HasWords (step_words steps) bytes
unfolding steps_at
steps_takes bytes steps h =
    let a = place_step _ _ _ million_place bytes _ steps h in
    let e = end_step a.0.1 _ steps a.3 in
    subst (λ (n : ℕ). InRange 1 MILLION n × HasWords (step_words n) bytes) (ok_same _ _ e.1) (a.1, (a.0.1, a.2, e.0))

steps_again : (bytes : List ℕ) (steps : ℕ) → InRange 1 MILLION steps → HasWords (step_words steps) bytes → steps_at bytes ≡ Ok steps
unfolding steps_at
steps_again bytes steps fits s = rw (million_place.again bytes s.0 steps fits s.1, end_again {C = Rule} s.0 s.2) refl

pub steps_form : IsForm {C = Rule} steps_at (InRange 1 MILLION) step_words
steps_form = record { takes = λ bytes steps h. steps_takes bytes steps h; again = λ bytes steps fits s. steps_again bytes steps fits s }
