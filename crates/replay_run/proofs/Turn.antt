-- A turn of a run by a schedule.
use Rattle.std.proofs.Common.{◌≡◌, ℕ, suc, ◌+◌, ◌-◌, ◌≤◌, List, ◌++◌, ap, sym, subst, ◌∙◌, arith}
use Rattle.std.specs.Prelude.{Bool, Some, None}
use Rattle.guest_program.specs.declared.instr.Func.{Func}
use Rattle.code_event.specs.declared.tick.Item.{Item}
use Rattle.run_schedule.specs.ScheduleParts.{ScheduleParts}
use Rattle.run_schedule.specs.declared.schedule.ScheduleEntry.{ScheduleEntry}
use Rattle.isolate_acts.proofs.TurnSteps.{one}
use Rattle.isolate_acts.specs.Acts.{calls_on, moment_on, raised_on}
use Rattle.isolate_acts.specs.Calls.{Call}
use Rattle.isolate_acts.specs.FitsSoFar.{FitsSoFar}
use Rattle.isolate_acts.specs.Phases.{first_phase}
use Rattle.isolate_acts.specs.Progress.{Moment, Progress}
use Rattle.isolate_ends.specs.Offered.{AreOffered}
use Rattle.isolate_ends.specs.declared.turn.IsoTurn.{IsoTurn}
use Rattle.port_calls.proofs.Answering.{state_on-append, turn_calls}
use Rattle.schedule_ports.proofs.Turned.{turns_stay}
use Rattle.schedule_ports.specs.ScheduleCalls.{AreBySchedule, by_schedule, is_dropped_at, left_after, left_on}
use Rattle.schedule_ports.specs.ScheduleTurns.{IsOnSchedule, IsScheduleTurn, MakesTurn, MayReplay}
use Rattle.one_thread.proofs.Finished.{run_funcs, same_list}
use Rattle.one_thread.proofs.Refusing.{refusing, way_refusing}
use Rattle.one_thread.specs.UnderWay.{HasTurned, IsUnderWay, Outlet, PlainIsolate, PlainProcessor}
use Rattle.replay_run.specs.Replaying.{IsReplaying}

-- whether the ring refuses samples changes nothing of a run
pub set_refusing : {S : Type 0} (outlet : PlainProcessor S → Outlet) (funcs : List Func) (schedule : ScheduleParts) (left : List ScheduleEntry) (before : Outlet) (i i' : PlainIsolate) (p p' : PlainProcessor S) (refuses : Bool)
    → IsReplaying funcs schedule left before (outlet p) i p → i' ≡ refusing i refuses → p' ≡ p → IsReplaying funcs schedule left before (outlet p') i' p'
set_refusing outlet funcs schedule left before i i' p p' refuses g same other =
    let way = way_refusing schedule.base funcs g.moment g.raised before (outlet p) i p g.way i' p' refuses same other in
    record {
      may = g.may;
      moment = g.moment;
      raised = g.raised;
      way = subst (λ q. IsUnderWay schedule.base funcs g.moment g.raised before (outlet q) i' p') (sym other) way;
      on = subst (λ (x : PlainIsolate). IsOnSchedule schedule left x.progress) (sym same) g.on;
    }

module _ {S : Type 0} (funcs : List Func) (schedule : ScheduleParts) (before now later : Outlet) (i0 i1 : PlainIsolate) (p0 p1 : PlainProcessor S) (calls0 calls1 : List Call) (answer : IsoTurn)
    (by1 : AreBySchedule schedule.entries calls1)
    (g : IsReplaying funcs schedule (left_on schedule.entries calls0) before now i0 p0)
    (refuses : i0.ends.ring.refuses ≡ is_dropped_at i0.progress.step (left_on schedule.entries calls0))
    (turned : HasTurned schedule.base funcs g.moment g.raised before later i0 i1 p1 (Some calls0) (Some calls1) answer) where
  abbrev pub calls_now : List Call
  calls_now = calls_on g.moment i0.progress turned.acts

  abbrev pub later_moment : Moment
  later_moment = moment_on g.moment turned.acts

  abbrev pub raised_now : List Item
  raised_now = raised_on g.moment i0.progress turned.acts

  abbrev pub left_before : List ScheduleEntry
  left_before = left_on schedule.entries calls0

  left_is : left_on schedule.entries calls1 ≡ left_on left_before calls_now
  left_is = ap (left_on schedule.entries) (same_list calls1 (calls0 ++ calls_now) turned.calls_are) ∙ state_on-append left_after schedule.entries calls0 calls_now

  pub own : g.moment.funcs ≡ funcs
  own = (g.way.kept.fits.going g.on.going).funcs_are

  makes : MakesTurn schedule left_before g.moment i0.progress turned.acts turned.last
  makes = record {
    may = subst (λ (f : List Func). MayReplay f schedule) (sym own) g.may;
    on_schedule = g.on;
    within = g.way.kept.within;
    fits = subst (λ (f : List Func). FitsSoFar f g.moment i0.progress (first_phase i0.progress)) (sym own) g.way.kept.fits;
    follow = turned.follow;
    over = turned.over;
    by_schedule = turn_calls by_schedule left_after schedule.entries calls0 calls1 calls_now by1 turned.calls_are;
    offered = subst (λ (b : Bool). AreOffered b turned.acts) refuses turned.offered;
  }

  pub stays : IsScheduleTurn schedule (left_on schedule.entries calls1) later_moment i1.progress
  stays =
      subst (λ (l : List ScheduleEntry). IsScheduleTurn schedule l later_moment i1.progress) (sym left_is)
      (subst (λ (p : Progress). IsScheduleTurn schedule (left_on left_before calls_now) later_moment p) (sym turned.progress)
      (turns_stay schedule left_before g.moment i0.progress turned.acts turned.last makes))

  -- the run goes on
  pub goes_on : i1.progress.ending ≡ None → IsReplaying funcs schedule (left_on schedule.entries calls1) before later i1 p1
  goes_on going = record {
    may = g.may;
    moment = later_moment;
    raised = g.raised ++ raised_now;
    way = turned.way;
    on = stays.goes going;
  }

  -- after one more step
  pub next_step : i1.progress.ending ≡ None → i1.progress.step ≡ suc i0.progress.step
  next_step going =
      ap (λ (p : Progress). p.step) turned.progress
      ∙ one g.moment i0.progress turned.last turned.acts turned.follow turned.over (subst (λ (p : Progress). p.ending ≡ None) turned.progress going)

  -- and has fewer steps left
  pub fewer_left : i1.progress.ending ≡ None → i1.progress.schedule.budget - i1.progress.step + 1 ≤ i0.progress.schedule.budget - i0.progress.step
  fewer_left going =
      let next = next_step going in
      let below = g.on.below in
      let budget = turned.head.budget in
      omega (arith, next, below, budget)

  pub later_funcs : later_moment.funcs ≡ funcs
  later_funcs = run_funcs g.moment i0.progress (first_phase i0.progress) turned.last turned.acts turned.follow ∙ own
