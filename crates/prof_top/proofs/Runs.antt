-- What has come out of a run, by what the run on the step clock has come to.
use Rattle.std.proofs.Common.{◌≡◌, inl, inr, refl, ℕ, List, [], ◌∷◌, ◌++◌, ap, sym, subst, ◌∙◌, arith}
use Rattle.std.specs.Prelude.{Bool, true, false, Option, flat_map, Result, IsErrOf}
use Rattle.guest_program.specs.declared.instr.Func.{Func}
use Rattle.isolate.specs.PlainFile.{plain_files}
use Rattle.item_fold.specs.declared.delivery.FileNote.{FileNote}
use Rattle.out_stream.specs.declared.stream.Undelivered.{Undelivered}
use Rattle.out_stream.specs.declared.stream.Undelivered.TheVariants as cut
use Rattle.processor.specs.Filing.{answer_of}
use Rattle.processor.specs.declared.turn.Delivery.{Delivery}
use Rattle.processor.specs.declared.turn.Delivery.TheVariants as delivery
use Rattle.raised_so_far.specs.Raised.{EndsFor}
use Rattle.run_schedule.specs.ScheduleParts.{ScheduleParts}
use Rattle.run_schedule.specs.declared.schedule.EndCause.{EndCause}
use Rattle.run_schedule.specs.declared.schedule.EndCause.TheVariants as end
use Rattle.run_schedule.specs.declared.schedule.ScheduleEntry.{ScheduleEntry}
use Rattle.run_schedule.specs.declared.schedule.What.TheVariants.{End}
use Rattle.one_thread.specs.UnderWay.{Outlet, PlainIsolate, PlainProcessor}
use Rattle.clock_run.specs.Run.{HasEnded}
use Rattle.prof_top.specs.Ending.{due_for, due_of, IsDue}
use Rattle.prof_top.specs.HandedOut.{HandsOut, IsDelivered, IsHandedOut, outlets}
use Rattle.prof_top.specs.Outcome.{IsWorked}
use Rattle.prof_top.specs.PrintedText.{file_line, schedule_lines}
use Rattle.prof_top.specs.Product.{MayBeDue, run_product}
use Rattle.prof_top.specs.RunSchedule.{IsRunSchedule, config_of}
use Rattle.prof_top.specs.declared.ending.Ending.{Ending}
use Rattle.prof_top.specs.declared.load.Task.TheVariants as task
use Rattle.prof_top.specs.declared.words.RunOptions.{RunOptions}
use Rattle.prof_top.proofs.Endings.{due_pushed}
use Rattle.prof_top.proofs.Handed.{none_is_part}

due_unless_short : (step : ℕ) (why : EndCause) → ¬ (why ≡ end.Memory) → IsDue (due_for step why)
due_unless_short step end.Halt other = tt
due_unless_short step end.Overflow other = tt
due_unless_short step end.OffEnd other = tt
due_unless_short step end.Budget other = tt
due_unless_short step end.Full other = tt
due_unless_short step end.Memory other = absurd (other refl)

-- a schedule that does not end out of memory says how its run is due to end
pub due_at_end : (why : EndCause) (entries : List ScheduleEntry) → EndsFor why entries → ¬ (why ≡ end.Memory) → IsDue (due_of entries)
due_at_end why entries ends other =
    let last : ScheduleEntry = record { step = ends.1; time = ends.2; what = End why } in
    subst IsDue (sym (ap due_of ends.3 ∙ due_pushed ends.0 last)) (due_unless_short ends.1 why other)

pub aborted_is : (how : Delivery) (spent : Bool) → IsErrOf (answer_of how spent) cut.Aborted → how ≡ delivery.Aborted
aborted_is delivery.Fine true is = absurd (cc is)
aborted_is delivery.Fine false is = absurd (cc is)
aborted_is delivery.Aborted spent is = refl
aborted_is delivery.Failed spent is = absurd (cc is)

pub failed_is : (how : Delivery) (spent : Bool) → IsErrOf (answer_of how spent) cut.Failed → how ≡ delivery.Failed
failed_is delivery.Fine true is = absurd (cc is)
failed_is delivery.Fine false is = absurd (cc is)
failed_is delivery.Aborted spent is = absurd (cc is)
failed_is delivery.Failed spent is = refl

-- files were delivered, and nothing was printed for lack of memory
pub hands_out_unprinted : (answer : Result (Unit {0}) Undelivered) (due : Ending) (lines : List ℕ) (notes : List FileNote) (written : Option (List ℕ)) (out_faults write_faults write_faults' : ℕ)
    → HandsOut answer due lines notes 6 written out_faults write_faults written out_faults write_faults'
hands_out_unprinted answer due lines notes written out_faults write_faults write_faults' files parts parts' aborts aborts' faults faults' d = (
  record {
    delivered = d.delivers.number;
    parts = d.delivers.parts;
    whole = λ no_abort no_fault room. absurd (room refl);
    done = λ guest_end. absurd (omega (arith, guest_end));
    order = λ five. absurd (omega (arith, five));
    printed = record { part = none_is_part written written _ refl; whole = λ no_fault room. absurd (room refl) };
    printed_done = λ done. absurd (omega (arith, done));
  },
  inl refl,
)

module _ {S : Type 0} (funcs : List Func) (options : RunOptions) (why : EndCause) (before now : Outlet) (i : PlainIsolate) (p : PlainProcessor S) (h : HasEnded funcs (config_of options) why before now i p) where
  schedule_is : ¬ (why ≡ end.Memory) → IsRunSchedule funcs options i.progress.schedule
  schedule_is other = record {
    legal = h.legal other;
    fits = h.fits other;
    head = record { base = h.head.base; ring = h.head.ring; budget = h.head.budget; limit = h.head.limit };
    clock = h.clock other;
  }

  delivered_is : ¬ (why ≡ end.Memory) → IsDelivered (plain_files funcs i.progress.schedule) (answer_of p.course.filing.delivery p.course.filing.is_spent) p.course.filing.notes before.parts now.parts before.aborts now.aborts before.faults now.faults
  delivered_is other = record {
    delivers = h.delivers other;
    aborted = λ is. h.counted.aborted (aborted_is p.course.filing.delivery p.course.filing.is_spent is);
    failed = λ is. h.counted.failed (failed_is p.course.filing.delivery p.course.filing.is_spent is);
  }

  -- a run was done
  pub run_worked : (other : ¬ (why ≡ end.Memory)) (schedules : List ScheduleParts) (status : ℕ) (written written' : Option (List ℕ)) (out_faults out_faults' write_faults write_faults' : ℕ) → schedules ≡ i.progress.schedule ∷ []
      → HandsOut (answer_of p.course.filing.delivery p.course.filing.is_spent) (due_of i.progress.schedule.entries) (i.printed.items ++ schedule_lines i.progress.schedule.entries) p.course.filing.notes status written out_faults write_faults written' out_faults' write_faults'
      → IsWorked (task.Run funcs options) status schedules (outlets before.parts before.aborts before.faults written out_faults write_faults)
      (outlets now.parts now.aborts now.faults written' out_faults' write_faults')
  run_worked other schedules status written written' out_faults out_faults' write_faults write_faults' one hands =
      let schedule = i.progress.schedule in
      let files = plain_files funcs schedule in
      let from = outlets before.parts before.aborts before.faults written out_faults write_faults in
      let to = outlets now.parts now.aborts now.faults written' out_faults' write_faults' in
      let out = hands files before.parts now.parts before.aborts now.aborts before.faults now.faults (delivered_is other) in
      inl (record {
        product = run_product funcs schedule;
        makes = (schedule, schedule_is other, refl);
        schedules_are = one;
        handed = subst (λ (l : List ℕ). IsHandedOut files (λ done. (l ++ schedule_lines schedule.entries) ++ flat_map file_line done) status from to) (h.printed other) out.0;
        ended = out.1;
      })

  pub run_due : (other : ¬ (why ≡ end.Memory)) (ending : Ending) → ending ≡ due_of i.progress.schedule.entries → MayBeDue (task.Run funcs options) ending
  run_due other ending is = (run_product funcs i.progress.schedule, (i.progress.schedule, schedule_is other, refl), sym is)

  -- memory ran out in it
  pub run_cut : why ≡ end.Memory → (schedules : List ScheduleParts) (written : Option (List ℕ)) (out_faults write_faults write_faults' : ℕ) → schedules ≡ []
      → IsWorked (task.Run funcs options) 6 schedules (outlets before.parts before.aborts before.faults written out_faults write_faults)
      (outlets now.parts now.aborts now.faults written out_faults write_faults')
  run_cut memory schedules written out_faults write_faults write_faults' none = inr (inr (refl, record { none = none; parts = h.cut memory; written = refl }))

-- the same of what is the same
pub hands_out_as : (answer answer' : Result (Unit {0}) Undelivered) (due due' : Ending) (lines lines' : List ℕ) (notes notes' : List FileNote) (status : ℕ) (written written' : Option (List ℕ)) (faults faults' puts puts' : ℕ)
    → answer ≡ answer' → due ≡ due' → lines ≡ lines' → notes ≡ notes' → HandsOut answer due lines notes status written faults puts written' faults' puts'
    → HandsOut answer' due' lines' notes' status written faults puts written' faults' puts'
hands_out_as answer answer' due due' lines lines' notes notes' status written written' faults faults' puts puts' answers dues lines_are notes_are hands =
    subst (λ (a : Result (Unit {0}) Undelivered). HandsOut a due' lines' notes' status written faults puts written' faults' puts') answers
    (subst (λ (d : Ending). HandsOut answer d lines' notes' status written faults puts written' faults' puts') dues
    (subst (λ (l : List ℕ). HandsOut answer due l notes' status written faults puts written' faults' puts') lines_are
    (subst (λ (n : List FileNote). HandsOut answer due lines n status written faults puts written' faults' puts') notes_are hands)))
