-- A turn of a run on the step clock.
use Rattle.std.proofs.Common.{◌≡◌, ℕ, suc, ◌+◌, ◌-◌, ◌≤◌, List, [], ◌∷◌, ◌++◌, refl, ap, sym, subst, ◌∙◌, inl, inr, arith}
use Rattle.std.proofs.lemmas.List.{append_assoc}
use Rattle.std.specs.List.{AllByRecursion}
use Rattle.std.specs.Prelude.{Bool, false, Some, None}
use Rattle.guest_program.specs.declared.instr.Func.{Func}
use Rattle.code_event.specs.declared.event.Options.{Options}
use Rattle.code_event.specs.declared.tick.Item.{Item}
use Rattle.run_schedule.specs.ScheduleParts.{ScheduleParts}
use Rattle.run_schedule.specs.declared.schedule.EndCause.{EndCause}
use Rattle.run_schedule.specs.declared.schedule.EndCause.TheVariants as cause
use Rattle.raised_so_far.proofs.Items.{all_joined}
use Rattle.raised_so_far.specs.FileOrder.{ItemLeavesNoFile}
use Rattle.isolate_acts.proofs.TurnSteps.{one}
use Rattle.isolate_acts.specs.Acts.{Act, passes, starts, stops, refuses, cuts_off, asks, samples, steps, ends, ends_short, act_after, calls_on, moment_after, moment_on, raised_on}
use Rattle.isolate_acts.specs.Calls.{Call}
use Rattle.isolate_acts.specs.Phases.{Phase, stepping, LeadTo, MayAct, first_phase}
use Rattle.isolate_acts.specs.Progress.{Moment, Progress}
use Rattle.isolate_ends.specs.Offered.{AreOffered}
use Rattle.isolate_ends.specs.declared.turn.IsoTurn.{IsoTurn}
use Rattle.isolate_turns.specs.declared.state.IsoConfig.{IsoConfig}
use Rattle.port_calls.proofs.Answering.{state_on-append, turn_calls}
use Rattle.step_clock.proofs.ClockFiles.{no_file}
use Rattle.step_clock.proofs.ClockOnce.{one_whole}
use Rattle.step_clock.proofs.ClockTurned.{own_program, turns_stay}
use Rattle.step_clock.specs.ClockCalls.{AreByClock, as_answered, begun_after, begun_on}
use Rattle.step_clock.specs.ClockTurns.{IsClockTurn, IsOnClock, MakesTurn}
use Rattle.step_clock.specs.StepClock.{IsWholeRecording}
use Rattle.one_thread.proofs.Finished.{heads, same_list}
use Rattle.one_thread.specs.UnderWay.{HasTurned, IsUnderWay, Outlet, PlainIsolate, PlainProcessor, SameHead, first_progress}
use Rattle.clock_run.specs.Run.{IsGoing}

-- two recordings of all samples at one interval are the same
same_recording : (a b : Options) → IsWholeRecording a.interval a → IsWholeRecording b.interval b → b.interval ≡ a.interval → b ≡ a
same_recording a b one other same =
    let other_too : IsWholeRecording a.interval b = record { port = other.port; interval = same; mode = other.mode; all = other.all } in
    one_whole a.interval a.low a.high b other_too ∙ sym (one_whole a.interval a.low a.high a one)

module _ {S : Type 0} (funcs : List Func) (config : IsoConfig) (before now later : Outlet) (i0 i1 : PlainIsolate) (p0 p1 : PlainProcessor S) (r0 r1 : Options) (calls0 calls1 : List Call) (answer : IsoTurn)
    (whole0 : IsWholeRecording r0.interval r0) (whole1 : IsWholeRecording r1.interval r1) (same : r1.interval ≡ r0.interval) (by1 : AreByClock r1 false calls1)
    (g : IsGoing funcs config r0 (begun_on false calls0) before now i0 p0)
    (turned : HasTurned config.base funcs g.moment (g.opening ++ g.more) before later i0 i1 p1 (Some calls0) (Some calls1) answer) where
  abbrev pub calls_now : List Call
  calls_now = calls_on g.moment i0.progress turned.acts

  abbrev pub later_moment : Moment
  later_moment = moment_on g.moment turned.acts

  abbrev pub raised_now : List Item
  raised_now = raised_on g.moment i0.progress turned.acts

  recording_is : r1 ≡ r0
  recording_is = same_recording r0 r1 whole0 whole1 same

  begun_is : begun_on false calls1 ≡ begun_on (begun_on false calls0) calls_now
  begun_is = ap (begun_on false) (same_list calls1 (calls0 ++ calls_now) turned.calls_are) ∙ state_on-append begun_after false calls0 calls_now

  pub makes : MakesTurn r0 (begun_on false calls0) g.moment i0.progress turned.acts turned.last
  makes = record {
    whole = whole0;
    on_clock = g.on;
    within = g.way.kept.within;
    fits = own_program funcs g.moment i0.progress (first_phase i0.progress) g.way.kept.fits g.on.going;
    follow = turned.follow;
    over = turned.over;
    by_clock = turn_calls (as_answered r0) begun_after false calls0 calls1 calls_now (subst (λ (r : Options). AreByClock r false calls1) recording_is by1) turned.calls_are;
  }

  pub stays : IsClockTurn r0 (begun_on false calls1) later_moment i1.progress
  stays =
      subst (λ (b : Bool). IsClockTurn r0 b later_moment i1.progress) (sym begun_is)
      (subst (λ (p : Progress). IsClockTurn r0 (begun_on (begun_on false calls0) calls_now) later_moment p) (sym turned.progress)
      (turns_stay r0 (begun_on false calls0) g.moment i0.progress turned.acts turned.last makes (subst (λ (b : Bool). AreOffered b turned.acts) g.takes turned.offered)))

  pub head_now : SameHead (first_progress config).schedule i1.progress.schedule
  head_now = heads (first_progress config).schedule i0.progress.schedule i1.progress.schedule g.head turned.head

  -- nothing was raised that leaves a file, unless the run has ended and memory has not run out
  pub none_filed_now : ((why : EndCause) → i1.progress.ending ≡ Some why → why ≡ cause.Memory) → AllByRecursion ItemLeavesNoFile (g.more ++ raised_now)
  none_filed_now none =
      all_joined ItemLeavesNoFile g.more raised_now g.none_filed
      (no_file r0 (begun_on false calls0) g.moment i0.progress turned.acts turned.last makes
      (subst (λ (p : Progress). (why : EndCause) → p.ending ≡ Some why → why ≡ cause.Memory) turned.progress none))

  pub way_now : IsUnderWay config.base funcs later_moment (g.opening ++ (g.more ++ raised_now)) before later i1 p1
  way_now = subst (λ (l : List Item). IsUnderWay config.base funcs later_moment l before later i1 p1) (append_assoc g.opening g.more raised_now) turned.way

  -- the run goes on
  pub goes_on : i1.progress.ending ≡ None → IsGoing funcs config r1 (begun_on false calls1) before later i1 p1
  goes_on going = record {
    moment = later_moment;
    opening = g.opening;
    more = g.more ++ raised_now;
    way = way_now;
    on = subst (λ (r : Options). IsOnClock r (begun_on false calls1) i1.progress) (sym recording_is) (stays.goes going);
    opened = g.opened;
    none_filed = none_filed_now (λ why is. absurd (cc (going, is)));
    head = head_now;
    takes = turned.refuses ∙ g.takes;
  }

  -- and has fewer steps left
  pub fewer_left : i1.progress.ending ≡ None → i1.progress.schedule.budget - i1.progress.step + 1 ≤ i0.progress.schedule.budget - i0.progress.step
  fewer_left going =
      let next : i1.progress.step ≡ suc i0.progress.step =
      ap (λ (p : Progress). p.step) turned.progress
      ∙ one g.moment i0.progress turned.last turned.acts turned.follow turned.over (subst (λ (p : Progress). p.ending ≡ None) turned.progress going) in
      let below = g.on.below in
      let budget = turned.head.budget in
      omega (arith, next, below, budget)
