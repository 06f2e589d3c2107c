-- What a run by a schedule has come to at its end.
use Rattle.std.proofs.Common.{◌≡◌, ℕ, List, [], ◌∷◌, ◌++◌, refl, ap, sym, subst, ◌∙◌}
use Rattle.std.specs.Prelude.{Option, Some, None}
use Rattle.guest_program.specs.declared.instr.Func.{Func}
use Rattle.code_event.specs.ItemFile.{item_files}
use Rattle.code_event.specs.declared.tick.Item.{Item}
use Rattle.isolate.specs.PlainFile.{plain_files}
use Rattle.isolate.specs.RunLaws.{last_step}
use Rattle.plain_machine.specs.PlainMachine.{plain}
use Rattle.run_schedule.specs.ScheduleParts.{ScheduleParts}
use Rattle.run_schedule.specs.declared.schedule.EndCause.{EndCause}
use Rattle.run_schedule.specs.declared.schedule.EndCause.TheVariants as cause
use Rattle.run_schedule.specs.declared.schedule.ScheduleEntry.{ScheduleEntry}
use Rattle.run_schedule.specs.declared.schedule.What.TheVariants.{End}
use Rattle.raised_so_far.proofs.Entries.{last_step-push}
use Rattle.raised_so_far.proofs.FilesRaised.{whole_runs}
use Rattle.raised_so_far.specs.Raised.{EndsFor, IsWhole}
use Rattle.isolate_acts.specs.Calls.{Call}
use Rattle.isolate_acts.specs.Progress.{Moment}
use Rattle.isolate_acts.specs.Stands.{StandsAt}
use Rattle.isolate_ends.specs.declared.turn.IsoTurn.{IsoTurn}
use Rattle.schedule_ports.specs.ScheduleCalls.{AreBySchedule, is_dropped_at, left_on}
use Rattle.schedule_ports.specs.ScheduleTurns.{IsScheduleEnd}
use Rattle.one_thread.proofs.Finished.{all_delivered, not_short, same_why}
use Rattle.one_thread.specs.UnderWay.{HasTurned, IsUnderWay, Outlet, PlainIsolate, PlainProcessor}
use Rattle.replay_run.specs.Replaying.{HasReplayed, IsReplaying}
use Rattle.replay_run.proofs.Turn.{later_funcs, later_moment, raised_now, stays}

module _ {S : Type 0} (funcs : List Func) (schedule : ScheduleParts) (why : EndCause) (before now : Outlet) (i : PlainIsolate) (p : PlainProcessor S) (moment : Moment) (raised : List Item)
    (way : IsUnderWay schedule.base funcs moment raised before now i p) (own : moment.funcs ≡ funcs) (ending : i.progress.ending ≡ Some why) (end : IsScheduleEnd schedule moment i.progress) where
  why_is : end.why ≡ why
  why_is = same_why end.why why (sym end.ending ∙ ending)

  abbrev ends_for : EndsFor why i.progress.schedule.entries
  ends_for = (end.before, i.progress.step, end.time, end.entries ∙ ap (λ (c : EndCause). end.before ++ record { step = i.progress.step; time = end.time; what = End c } ∷ []) why_is)

  same_now : ¬ (why ≡ cause.Memory) → i.progress.schedule ≡ schedule
  same_now other = end.same (λ memory. other (sym why_is ∙ memory))

  last_is : last_step i.progress.schedule.entries ≡ moment.steps
  last_is = ap last_step end.entries ∙ last_step-push end.before (record { step = i.progress.step; time = end.time; what = End end.why }) ∙ sym end.steps

  whole : IsWhole funcs i.progress.schedule raised
  whole = subst (λ (e : Option EndCause). StandsAt e funcs moment i.progress raised) ending way.kept.stands

  files_are : ¬ (why ≡ cause.Memory) → item_files schedule.base raised ≡ plain_files funcs schedule
  files_are other =
      subst (λ (s : ScheduleParts). item_files s.base raised ≡ plain_files funcs s) (same_now other)
      (whole_runs funcs i.progress.schedule raised whole (not_short why i.progress.schedule.entries other ends_for))

  printed_is : ¬ (why ≡ cause.Memory) → i.printed.items ≡ (plain funcs (last_step schedule.entries)).printed
  printed_is other =
      let steps : moment.steps ≡ last_step schedule.entries = sym last_is ∙ ap (λ (s : ScheduleParts). last_step s.entries) (same_now other) in
      way.now_is.printed_is ∙ (λ k. (plain (own k) (steps k)).printed)

  pub has_replayed : HasReplayed funcs schedule why before now i p
  has_replayed = record {
    ends = ends_for;
    same = same_now;
    begins = (end.rest, sym (ap (λ (s : ScheduleParts). s.entries) end.kept));
    printed = printed_is;
    delivers = λ other. all_delivered schedule.base raised p.course.filing before.parts now.parts (plain_files funcs schedule) way.settled.delivered (files_are other);
    counted = way.counted;
  }

-- a run that has ended in this turn
module _ {S : Type 0} (funcs : List Func) (schedule : ScheduleParts) (before now later : Outlet) (i0 i1 : PlainIsolate) (p0 p1 : PlainProcessor S) (calls0 calls1 : List Call) (answer : IsoTurn)
    (by1 : AreBySchedule schedule.entries calls1)
    (g : IsReplaying funcs schedule (left_on schedule.entries calls0) before now i0 p0)
    (refuses : i0.ends.ring.refuses ≡ is_dropped_at i0.progress.step (left_on schedule.entries calls0))
    (turned : HasTurned schedule.base funcs g.moment g.raised before later i0 i1 p1 (Some calls0) (Some calls1) answer) where
  pub ended_now : (why : EndCause) → i1.progress.ending ≡ Some why → HasReplayed funcs schedule why before later i1 p1
  ended_now why ending =
      let turn = stays funcs schedule before now later i0 i1 p0 p1 calls0 calls1 answer by1 g refuses turned in
      has_replayed funcs schedule why before later i1 p1 (later_moment funcs schedule before now later i0 i1 p0 p1 calls0 calls1 answer by1 g refuses turned)
      (g.raised ++ raised_now funcs schedule before now later i0 i1 p0 p1 calls0 calls1 answer by1 g refuses turned) turned.way
      (later_funcs funcs schedule before now later i0 i1 p0 p1 calls0 calls1 answer by1 g refuses turned) ending
      (turn.ends (λ going. absurd (cc (going, ending))))
