-- A text is refused at its first line whose words are at fault or spell a value that breaks a rule, or else at its end.
use Rattle.std.proofs.Common.{◌≡◌, ℕ, List, [], ◌∷◌, ◌++◌, Err, Option, Some, None, refl, ap, subst, inl, inr, ◌↔◌}
use Rattle.prof_lines.specs.declared.fault.Cause.{Cause}
use Rattle.prof_lines.specs.Lines.{counted}
use Rattle.prof_lines.specs.Folds.{read_lines, read_text, IsFirstFault, IsTextFault}
use Rattle.prof_lines.specs.Forms.{Wording, IsForm}
use Rattle.prof_lines.specs.Values.{LineReader, Fitting, Rules, TextEnd, HaveForms, kept, next_value}
use Rattle.prof_lines.specs.Causes.{Refuses}
use Rattle.prof_lines.specs.Refused.{LineFaults, LineFaultAfter, IsRefusedLine, IsRefusedText}
use Rattle.prof_lines.proofs.Steps.{bind_err, err_same}
use Rattle.prof_lines.proofs.Folds.{first_fault_iff, text_fault_iff}
use Rattle.prof_lines.proofs.Values.{values_taken, values_again}

kept_err : {V C : Type 0} (m : Option (Cause C)) (v : V) (cause : Cause C) → kept m v ≡ Err cause → m ≡ Some cause
kept_err None v cause h = absurd cc
kept_err {V = V} {C = C} (Some d) v cause h = ap (λ (z : Cause C). Some z) (err_same {B = V} d cause h)

-- the faults of a line after these values
pub line_refuses : {V C : Type 0} (read : LineReader V C) (Fits : Fitting V) (words : Wording V) (fault : Rules V C) (Fault : LineFaults V C)
    (before : List V) → IsForm (read before) (Fits before) words → Refuses (read before) (Fault before) → Refuses (next_value read fault before) (LineFaultAfter Fits words fault Fault before)
line_refuses read Fits words fault Fault before form r = record {
  says = λ line cause h. elim (bind_err (read before line) (λ value. kept (fault before value) (before ++ value ∷ [])) cause h) [
    | inl e ↦ inl (r.says line cause e)
    | inr q ↦ let t = form.takes line q.0 q.1 in inr (q.0, t.0, t.1, kept_err (fault before q.0) _ cause q.2)
  ];
  again = λ line cause f. elim f [
    | inl e ↦ rw (r.again line cause e) refl
    | inr q ↦ rw (form.again line q.0 q.1 q.2, q.3) refl
  ];
}

-- after any values the faults of the line that comes next are these
abbrev pub HaveFaults : {V C : Type 0} → LineReader V C → LineFaults V C → Type 0
HaveFaults {V = V} read Fault = (before : List V) → Refuses (read before) (Fault before)

refused_from : {V C : Type 0} (read : LineReader V C) (Fits : Fitting V) (words : Wording V) (fault : Rules V C) (Fault : LineFaults V C)
    → HaveForms read Fits words → HaveFaults read Fault → (lines : List (ℕ × List ℕ)) (place : ℕ × Cause C)
    → IsFirstFault (next_value read fault) [] lines place → IsRefusedLine Fits words fault Fault lines place
refused_from {V = V} read Fits words fault Fault forms faults lines place f =
    let v = values_taken read Fits words fault forms [] f.state f.before f.reads in
    let r = line_refuses read Fits words fault Fault v.0 (forms v.0) (faults v.0) in
    record {
      before = f.before;
      line = f.line;
      after = f.after;
      values = v.0;
      are = f.are;
      number = f.number;
      spelled = v.2;
      at_fault = r.says f.line.1 place.1 (subst (λ (z : List V). next_value read fault z f.line.1 ≡ Err place.1) v.1 f.fault);
    }

refused_again : {V C : Type 0} (read : LineReader V C) (Fits : Fitting V) (words : Wording V) (fault : Rules V C) (Fault : LineFaults V C)
    → HaveForms read Fits words → HaveFaults read Fault → (lines : List (ℕ × List ℕ)) (place : ℕ × Cause C)
    → IsRefusedLine Fits words fault Fault lines place → IsFirstFault (next_value read fault) [] lines place
refused_again read Fits words fault Fault forms faults lines place f =
    let r = line_refuses read Fits words fault Fault f.values (forms f.values) (faults f.values) in
    record {
      before = f.before;
      line = f.line;
      after = f.after;
      state = f.values;
      are = f.are;
      number = f.number;
      reads = values_again read Fits words fault forms [] f.values f.before f.spelled;
      fault = r.again f.line.1 place.1 f.at_fault;
    }

-- lines are refused at the first one at fault
pub lines_refused : {V C : Type 0} (read : LineReader V C) (Fits : Fitting V) (words : Wording V) (fault : Rules V C) (Fault : LineFaults V C)
    → HaveForms read Fits words → HaveFaults read Fault → (lines : List (ℕ × List ℕ)) (place : ℕ × Cause C)
    → (read_lines (next_value read fault) [] lines ≡ Err place) ↔ IsRefusedLine Fits words fault Fault lines place
lines_refused read Fits words fault Fault forms faults lines place =
    let first = first_fault_iff (next_value read fault) [] lines place in
    (λ h. refused_from read Fits words fault Fault forms faults lines place (first.0 h), λ f. first.1 (refused_again read Fits words fault Fault forms faults lines place f))

text_from : {V W C : Type 0} (read : LineReader V C) (Fits : Fitting V) (words : Wording V) (fault : Rules V C) (Fault : LineFaults V C) (end : TextEnd V W C)
    → HaveForms read Fits words → HaveFaults read Fault → (text : List ℕ) (place : ℕ × Cause C)
    → IsTextFault (next_value read fault) end [] text place → IsRefusedText Fits words fault Fault end text place
text_from read Fits words fault Fault end forms faults text place (inl f) = inl (refused_from read Fits words fault Fault forms faults (counted text) place f)
text_from {V = V} read Fits words fault Fault end forms faults text place (inr f) =
    let v = values_taken read Fits words fault forms [] f.0 (counted text) f.1 in
    inr (record { values = v.0; spelled = v.2; at_fault = subst (λ (z : List V). end z ≡ Err place.1) v.1 f.2; number = f.3 })

text_again : {V W C : Type 0} (read : LineReader V C) (Fits : Fitting V) (words : Wording V) (fault : Rules V C) (Fault : LineFaults V C) (end : TextEnd V W C)
    → HaveForms read Fits words → HaveFaults read Fault → (text : List ℕ) (place : ℕ × Cause C)
    → IsRefusedText Fits words fault Fault end text place → IsTextFault (next_value read fault) end [] text place
text_again read Fits words fault Fault end forms faults text place (inl f) = inl (refused_again read Fits words fault Fault forms faults (counted text) place f)
text_again read Fits words fault Fault end forms faults text place (inr f) = inr (f.values, values_again read Fits words fault forms [] f.values (counted text) f.spelled, f.at_fault, f.number)

pub text_refused : {V W C : Type 0} (read : LineReader V C) (Fits : Fitting V) (words : Wording V) (fault : Rules V C) (Fault : LineFaults V C) (end : TextEnd V W C)
    → HaveForms read Fits words → HaveFaults read Fault → (text : List ℕ) (place : ℕ × Cause C)
    → (read_text (next_value read fault) end [] text ≡ Err place) ↔ IsRefusedText Fits words fault Fault end text place
text_refused read Fits words fault Fault end forms faults text place =
    let first = text_fault_iff (next_value read fault) end [] text place in
    (λ h. text_from read Fits words fault Fault end forms faults text place (first.0 h), λ f. first.1 (text_again read Fits words fault Fault end forms faults text place f))
