-- Addresses up to the end of a line, as a loop reads them.
use Rattle.std.proofs.Common.{◌≡◌, ◌∙◌, ℕ, suc, List, [], ◌∷◌, ◌++◌, true, false, Ok, Err, refl, sym, ap, append_assoc, append-nil, subst}
use Rattle.prof_lines.specs.declared.fault.Cause.{Cause}
use Rattle.prof_lines.specs.declared.fault.LineFault.{LineFault}
use Rattle.prof_lines.specs.declared.fault.LineFault.TheVariants as faults
use Rattle.prof_lines.specs.Answers.{Fails, ◌>>=◌}
use Rattle.prof_lines.specs.Words.{is_end, numbers_at, end_at}
use Rattle.record_text.specs.declared.rule.Rule.{Rule}
use Rattle.item_text.specs.ItemLine.{MAX_ADDRESS}
use Rattle.record_text.specs.Words.{Read}
use Rattle.item_text.specs.ItemForms.{address_at}

-- what was read before, and what is still read
abbrev pub with_before : List ℕ → Read (List ℕ) → Read (List ℕ)
with_before before (Ok numbers) = Ok (before ++ numbers)
with_before before (Err cause) = Err cause

abbrev pub reads : ℕ → List ℕ → Read (List ℕ)
reads room bytes = numbers_at 0 MAX_ADDRESS room bytes

number_more : (before : List ℕ) (n : ℕ) (r : Read (List ℕ)) → with_before before (r >>= λ others. Ok (n ∷ others)) ≡ with_before (before ++ n ∷ []) r
number_more before n (Ok others) = ap (λ (z : List ℕ). Ok z) (sym (append_assoc before (n ∷ []) others))
number_more before n (Err cause) = refl

end_by : (before bytes : List ℕ) (room : ℕ) → is_end bytes ≡ true → with_before before (reads (suc room) bytes) ≡ Ok before
unfolding numbers_at
end_by before bytes room e = rw e (ap (λ (z : List ℕ). Ok z) (append-nil before))

more_by : (before bytes rest : List ℕ) (n room : ℕ) → is_end bytes ≡ false → address_at bytes ≡ Ok (n, rest)
    → with_before before (reads (suc room) bytes) ≡ with_before (before ++ n ∷ []) (reads room rest)
unfolding numbers_at
more_by before bytes rest n room e f = rw (e, f) (number_more before n (numbers_at 0 MAX_ADDRESS room rest))

fault_by : (before bytes : List ℕ) (room : ℕ) (cause : Cause Rule) → is_end bytes ≡ false → address_at bytes ≡ Err cause → with_before before (reads (suc room) bytes) ≡ Err cause
unfolding numbers_at
fault_by before bytes room cause e f = rw (e, f) refl

full_by : (before bytes : List ℕ) → end_at {C = Rule} bytes ≡ Ok tt → with_before before (reads 0 bytes) ≡ Ok before
unfolding numbers_at
full_by before bytes e = rw e (ap (λ (z : List ℕ). Ok z) (append-nil before))

over_by : (before bytes : List ℕ) (cause : Cause Rule) → end_at {C = Rule} bytes ≡ Err cause → with_before before (reads 0 bytes) ≡ Err cause
unfolding numbers_at
over_by before bytes cause e = rw e refl

-- the loop so far, where at most this many addresses follow
abbrev SoFar : List ℕ → List ℕ → ℕ → Read (List ℕ) → Type 0
SoFar before bytes n total = with_before before (reads n bytes) ≡ total

pub addresses_end : (before bytes : List ℕ) (n room : ℕ) (total : Read (List ℕ)) → n ≡ suc room → is_end bytes ≡ true → SoFar before bytes n total → total ≡ Ok before
addresses_end before bytes n room total is e h = sym (subst (λ (z : ℕ). SoFar before bytes z total) is h) ∙ end_by before bytes room e

pub addresses_more : (before bytes rest : List ℕ) (next n room : ℕ) (total : Read (List ℕ)) → n ≡ suc room → is_end bytes ≡ false → address_at bytes ≡ Ok (next, rest)
    → SoFar before bytes n total → SoFar (before ++ next ∷ []) rest room total
addresses_more before bytes rest next n room total is e f h = sym (more_by before bytes rest next room e f) ∙ subst (λ (z : ℕ). SoFar before bytes z total) is h

pub addresses_fail : (before bytes : List ℕ) (n room : ℕ) (fault : LineFault Rule) (total : Read (List ℕ)) → n ≡ suc room → is_end bytes ≡ false → Fails fault (address_at bytes)
    → SoFar before bytes n total → Fails fault total
addresses_fail before bytes n room faults.Memory total is e f h = tt
addresses_fail before bytes n room (faults.At cause) total is e f h = sym (subst (λ (z : ℕ). SoFar before bytes z total) is h) ∙ fault_by before bytes room cause e f

pub addresses_full : (before bytes : List ℕ) (n : ℕ) (total : Read (List ℕ)) → n ≡ 0 → end_at {C = Rule} bytes ≡ Ok tt → SoFar before bytes n total → total ≡ Ok before
addresses_full before bytes n total is e h = sym (subst (λ (z : ℕ). SoFar before bytes z total) is h) ∙ full_by before bytes e

pub addresses_over : (before bytes : List ℕ) (n : ℕ) (fault : LineFault Rule) (total : Read (List ℕ)) → n ≡ 0 → Fails fault (end_at {C = Rule} bytes) → SoFar before bytes n total → Fails fault total
addresses_over before bytes n faults.Memory total is e h = tt
addresses_over before bytes n (faults.At cause) total is e h = sym (subst (λ (z : ℕ). SoFar before bytes z total) is h) ∙ over_by before bytes cause e
