-- What was put in a call, and how that changes its ending.
use Rattle.std.proofs.Common.{◌≡◌, ◌⊎◌, inl, inr, ℕ, List, [], ◌∷◌, ◌++◌, refl, sym, subst, arith}
use Rattle.std.specs.Prelude.{Option, Result, Ok, Err, OnOk, OnErr, IsErrOf, flat_map}
use Rattle.code_event.specs.ItemFile.{SessionFile}
use Rattle.item_fold.specs.declared.delivery.FileNote.{FileNote}
use Rattle.out_stream.specs.declared.stream.Undelivered.{Undelivered}
use Rattle.prof_base.specs.Causes.{Rose}
use Rattle.prof_outer.specs.Files.{FileMap}
use Rattle.prof_outer.specs.Puts.{IsPut, AfterFailedPut}
use Rattle.prof_outer.specs.declared.depot.PutFault.{PutFault}
use Rattle.prof_outer.specs.declared.depot.PutFault.TheVariants as put
use Rattle.record_text.specs.ScheduleTexts.{schedule_text}
use Rattle.run_schedule.specs.ScheduleParts.{ScheduleParts}
use Rattle.prof_top.specs.Ending.{after_put, status_of}
use Rattle.prof_top.specs.HandedOut.{Outlets, outlets, IsHandedOut, IsEndedSo, HandsOut}
use Rattle.prof_top.specs.PrintedText.{file_line}
use Rattle.prof_top.specs.PutText.{schedule_name, IsTextPut, HasPut}
use Rattle.prof_top.specs.declared.ending.Ending.{Ending}
use Rattle.prof_top.specs.declared.ending.Ending.TheVariants.{Done}
use Rattle.prof_top.proofs.Handed.{handed_at_last, not_zero_unwritten}

-- what a put of this text answered, and what that left
pub record Puts (answer : Result (Unit {0}) PutFault) (schedule : ScheduleParts) (held held' : Option FileMap) (faults faults' : ℕ) : Type 0 where
  pub ok : OnOk answer (IsPut held schedule_name (schedule_text schedule) held')
  pub part : OnErr answer (AfterFailedPut held schedule_name (schedule_text schedule) held')
  pub failed : IsErrOf answer put.Failed → Rose faults faults'
  pub same : OnOk answer (faults' ≡ faults)

-- the text was put, as the ending after the put says
pub text_put : (answer : Result (Unit {0}) PutFault) (ending : Ending) (schedule : ScheduleParts) (held held' : Option FileMap) (faults faults' : ℕ)
    → Puts answer schedule held held' faults faults' → IsTextPut schedule (status_of (after_put ending answer)) held held' faults faults'
text_put (Ok u) ending schedule held held' faults faults' puts = record {
  part = inr (inl puts.ok);
  whole = λ no_fault room. puts.ok;
  done = λ done. (puts.ok, puts.same);
}
text_put (Err put.Failed) ending schedule held held' faults faults' puts = record {
  part = puts.part;
  whole = λ no_fault room. absurd (no_fault (puts.failed refl));
  done = λ done. absurd (not_zero_unwritten ending done);
}
text_put (Err put.Memory) ending schedule held held' faults faults' puts = record {
  part = puts.part;
  whole = λ no_fault room. absurd (room refl);
  done = λ done. absurd (omega (arith, done));
}

-- the same, by how the call ends and by the schedule that was put
pub text_put_as : (answer : Result (Unit {0}) PutFault) (ending last : Ending) (schedule schedule' : ScheduleParts) (held held' : Option FileMap) (faults faults' : ℕ)
    → last ≡ after_put ending answer → schedule ≡ schedule' → Puts answer schedule held held' faults faults' → IsTextPut schedule' (status_of last) held held' faults faults'
text_put_as answer ending last schedule schedule' held held' faults faults' ends same puts =
    subst (λ (s : ScheduleParts). IsTextPut s (status_of last) held held' faults faults') same
    (subst (λ (e : Ending). IsTextPut schedule (status_of e) held held' faults faults') (sym ends) (text_put answer ending schedule held held' faults faults' puts))

-- a put of the same bytes under the same name
pub put_as : (answer : Result (Unit {0}) PutFault) (held held' : Option FileMap) (name name' bytes bytes' : List ℕ) → name ≡ name' → bytes ≡ bytes'
    → OnOk answer (IsPut held name bytes held') → OnOk answer (IsPut held name' bytes' held')
put_as answer held held' name name' bytes bytes' names are is =
    subst (λ (n : List ℕ). OnOk answer (IsPut held n bytes' held')) names (subst (λ (b : List ℕ). OnOk answer (IsPut held name b held')) are is)

pub not_put_as : (answer : Result (Unit {0}) PutFault) (held held' : Option FileMap) (name name' bytes bytes' : List ℕ) → name ≡ name' → bytes ≡ bytes'
    → OnErr answer (AfterFailedPut held name bytes held') → OnErr answer (AfterFailedPut held name' bytes' held')
not_put_as answer held held' name name' bytes bytes' names are is =
    subst (λ (n : List ℕ). OnErr answer (AfterFailedPut held n bytes' held')) names (subst (λ (b : List ℕ). OnErr answer (AfterFailedPut held name b held')) are is)

-- only work that was due to be done has this status
done_by_status : (due : Ending) → 0 ≡ status_of due → due ≡ Done
done_by_status Done is = refl
done_by_status due is = absurd (omega (arith, is))

done_by_ending : (due : Ending) (before now : Outlets) → IsEndedSo due 0 before now → due ≡ Done
done_by_ending due before now (inl is) = absurd (omega (arith, is))
done_by_ending due before now (inr (inl is)) = absurd (omega (arith, is.0))
done_by_ending due before now (inr (inr (inl is))) = absurd (omega (arith, is.0))
done_by_ending due before now (inr (inr (inr is))) = done_by_status due is

-- what was handed out stays the same where all was done and then the put failed
handed_unput : (files : List SessionFile) (text : List SessionFile → List ℕ) (before now : Outlets) → IsHandedOut files text 0 before now → IsHandedOut files text 5 before now
handed_unput files text before now handed = record {
  delivered = handed.delivered;
  parts = handed.parts;
  whole = λ no_abort no_fault room. handed.done (inl refl);
  done = λ done. handed.done (inl refl);
  order = λ five. inr (handed.done (inl refl));
  printed = record { part = handed.printed.part; whole = λ no_fault room. handed.printed_done refl };
  printed_done = λ done. absurd (omega (arith, done));
}

-- how the call ended once a put failed, and what was handed out of it
handed_after_fault : (files : List SessionFile) (text : List SessionFile → List ℕ) (due ending : Ending) (before now : Outlets) → Rose before.write_faults now.write_faults
    → IsHandedOut files text (status_of ending) before now × IsEndedSo due (status_of ending) before now
    → IsHandedOut files text (status_of (after_put ending (Err put.Failed))) before now × IsEndedSo due (status_of (after_put ending (Err put.Failed))) before now
handed_after_fault files text due Done before now rose out =
    (handed_unput files text before now out.0, inr (inr (inl (refl, inr (done_by_ending due before now out.1, inr rose)))))
handed_after_fault files text due ending before now rose out = out

-- the same once the put has answered
handed_after_put : (files : List SessionFile) (text : List SessionFile → List ℕ) (due ending : Ending) (answer : Result (Unit {0}) PutFault) (before now : Outlets)
    → (IsErrOf answer put.Failed → Rose before.write_faults now.write_faults)
    → IsHandedOut files text (status_of ending) before now × IsEndedSo due (status_of ending) before now
    → IsHandedOut files text (status_of (after_put ending answer)) before now × IsEndedSo due (status_of (after_put ending answer)) before now
handed_after_put files text due ending (Ok u) before now failed out = out
handed_after_put files text due ending (Err put.Failed) before now failed out = handed_after_fault files text due ending before now (failed refl) out
handed_after_put files text due ending (Err put.Memory) before now failed out = (handed_at_last files text (status_of ending) 6 before now (inr refl) out.0, inl refl)

pub hands_out_after_put : (answer : Result (Unit {0}) Undelivered) (due ending last : Ending) (lines : List ℕ) (notes : List FileNote) (written written' : Option (List ℕ)) (out_faults out_faults' write_faults write_faults' : ℕ) (put_answer : Result (Unit {0}) PutFault)
    → last ≡ after_put ending put_answer → (IsErrOf put_answer put.Failed → Rose write_faults write_faults')
    → HandsOut answer due lines notes (status_of ending) written out_faults write_faults written' out_faults' write_faults'
    → HandsOut answer due lines notes (status_of last) written out_faults write_faults written' out_faults' write_faults'
hands_out_after_put answer due ending last lines notes written written' out_faults out_faults' write_faults write_faults' put_answer ends failed hands =
    subst (λ (e : Ending). HandsOut answer due lines notes (status_of e) written out_faults write_faults written' out_faults' write_faults') (sym ends)
    (λ files parts parts' aborts aborts' faults faults' is.
    handed_after_put files (λ done. lines ++ flat_map file_line done) due ending put_answer (outlets parts aborts faults written out_faults write_faults)
    (outlets parts' aborts' faults' written' out_faults' write_faults') failed (hands files parts parts' aborts aborts' faults faults' is))

-- where memory runs out for the line of error, what was put stays the same
pub put_at_last : (schedules : List ScheduleParts) (status last : ℕ) (held held' : Option FileMap) (faults faults' : ℕ) → (last ≡ status) ⊎ (last ≡ 6)
    → HasPut schedules status held held' faults faults' → HasPut schedules last held held' faults faults'
put_at_last [] status last held held' faults faults' how has = has
put_at_last (schedule ∷ schedules) status last held held' faults faults' (inl same) has = subst (λ s. IsTextPut schedule s held held' faults faults') (sym same) has
put_at_last (schedule ∷ schedules) status last held held' faults faults' (inr memory) has = record {
  part = has.part;
  whole = λ no_fault room. absurd (room memory);
  done = λ done. absurd (omega (arith, memory, done));
}

-- the text of the one schedule that there is was put
pub put_of_one : (schedules : List ScheduleParts) (schedule : ScheduleParts) (status : ℕ) (held held' : Option FileMap) (faults faults' : ℕ) → schedules ≡ schedule ∷ []
    → IsTextPut schedule status held held' faults faults' → HasPut schedules status held held' faults faults'
put_of_one schedules schedule status held held' faults faults' one is = subst (λ s. HasPut s status held held' faults faults') (sym one) is

-- the same by what the depot had before, which nothing has changed
pub put_from : (schedules : List ScheduleParts) (status : ℕ) (held first held' : Option FileMap) (faults first_faults faults' : ℕ) → first ≡ held → first_faults ≡ faults
    → HasPut schedules status first held' first_faults faults' → HasPut schedules status held held' faults faults'
put_from schedules status held first held' faults first_faults faults' same same_faults has =
    subst (λ (h : Option FileMap). HasPut schedules status h held' faults faults') same (subst (λ (n : ℕ). HasPut schedules status first held' n faults') same_faults has)
