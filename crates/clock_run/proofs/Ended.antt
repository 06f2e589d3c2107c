-- What a run on the step clock has come to at its end.
use Rattle.std.proofs.Common.{◌≡◌, ℕ, ◌≤◌, List, [], ◌∷◌, ◌++◌, map, take, refl, ap, sym, subst, ◌∙◌, append-nil, arith}
use Rattle.std.specs.List.{AllByRecursion}
use Rattle.std.specs.Prelude.{false, Option, Some, None, IfSome}
use Rattle.guest_program.specs.declared.instr.Func.{Func}
use Rattle.code_event.specs.ItemFile.{SessionFile, item_files}
use Rattle.code_event.specs.declared.event.Options.{Options}
use Rattle.code_event.specs.declared.tick.Item.{Item}
use Rattle.item_fold.specs.Delivered.{Delivers}
use Rattle.out_stream.specs.AddedParts.{AddsParts}
use Rattle.out_stream.specs.Parts.{Parts}
use Rattle.isolate.specs.PlainFile.{plain_files}
use Rattle.plain_machine.specs.PlainMachine.{plain}
use Rattle.run_schedule.specs.ScheduleParts.{ScheduleParts}
use Rattle.run_schedule.specs.declared.schedule.EndCause.{EndCause}
use Rattle.run_schedule.specs.declared.schedule.EndCause.TheVariants as cause
use Rattle.run_schedule.specs.declared.schedule.ScheduleEntry.{ScheduleEntry}
use Rattle.run_schedule.specs.declared.schedule.What.TheVariants.{End}
use Rattle.raised_so_far.proofs.FilesRaised.{short_turns, whole_runs}
use Rattle.raised_so_far.specs.FileOrder.{ItemLeavesNoFile}
use Rattle.raised_so_far.specs.Raised.{EndsFor, IsRaised, IsWhole}
use Rattle.isolate_acts.specs.Acts.{moment_on, raised_on}
use Rattle.isolate_acts.specs.Calls.{Call}
use Rattle.isolate_acts.specs.Phases.{first_phase}
use Rattle.isolate_acts.specs.Progress.{Moment}
use Rattle.isolate_acts.specs.Stands.{StandsAt}
use Rattle.isolate_ends.specs.declared.turn.IsoTurn.{IsoTurn}
use Rattle.isolate_turns.specs.declared.state.IsoConfig.{IsoConfig}
use Rattle.processor.specs.CourseLaws.{AreDelivered}
use Rattle.processor.specs.Filing.{FilingParts, answer_of}
use Rattle.step_clock.proofs.Clock.{clocks_are_legal, clocks_fit, last_pushed}
use Rattle.step_clock.specs.ClockCalls.{AreByClock, begun_on}
use Rattle.step_clock.specs.ClockTurns.{IsClockEnd}
use Rattle.step_clock.specs.StepClock.{IsStepClock, IsWholeRecording, last_step}
use Rattle.one_thread.proofs.Finished.{all_delivered, not_short, run_funcs, same_why}
use Rattle.one_thread.specs.UnderWay.{HasTurned, IsUnderWay, Outlet, PlainIsolate, PlainProcessor, SameHead, first_progress}
use Rattle.clock_run.specs.Run.{HasEnded, IsGoing}
use Rattle.clock_run.proofs.Turn.{head_now, none_filed_now, stays, way_now}

no_prefix : (part rest : List ℕ) → [] ≡ part ++ rest → part ≡ []
no_prefix [] rest same = refl
no_prefix (b ∷ part) rest same = absurd (cc same)

-- where there is no file, nothing has come
no_parts : (before now : Option Parts) (number : ℕ) → number ≤ 0 → IfSome before (λ p. p.1 ≡ []) → AddsParts [] number before now → now ≡ before
no_parts None now number none fresh adds = adds.2
no_parts (Some parts) now number none fresh adds =
    let zero_is : number ≡ 0 = omega (arith, none) in
    let part_is : adds.0 ≡ parts.1 = no_prefix adds.0 adds.1.0 adds.1.1 ∙ sym fresh in
    let front : parts.0 ++ take number [] ≡ parts.0 = ap (λ (n : ℕ). parts.0 ++ take n []) zero_is ∙ append-nil parts.0 in
    adds.2 ∙ (λ k. Some (front k, part_is k))

module _ {S : Type 0} (funcs : List Func) (config : IsoConfig) (why : EndCause) (before now : Outlet) (i : PlainIsolate) (p : PlainProcessor S) (moment : Moment) (opening more : List Item)
    (way : IsUnderWay config.base funcs moment (opening ++ more) before now i p) (head : SameHead (first_progress config).schedule i.progress.schedule) (own : moment.funcs ≡ funcs)
    (ending : i.progress.ending ≡ Some why) (end : IsClockEnd config.base moment i.progress) (opened : IsRaised funcs config.base [] 0 opening)
    (none_filed : why ≡ cause.Memory → AllByRecursion ItemLeavesNoFile more) where
  abbrev schedule : ScheduleParts
  schedule = i.progress.schedule

  why_is : end.why ≡ why
  why_is = same_why end.why why (sym end.ending ∙ ending)

  ends_for : EndsFor why schedule.entries
  ends_for = (end.before, i.progress.step, end.time, end.entries ∙ ap (λ (c : EndCause). end.before ++ record { step = i.progress.step; time = end.time; what = End c } ∷ []) why_is)

  last_is : last_step schedule.entries ≡ moment.steps
  last_is = ap last_step end.entries ∙ last_pushed end.before (record { step = i.progress.step; time = end.time; what = End end.why }) ∙ sym end.steps

  on_clock : ¬ (why ≡ cause.Memory) → IsStepClock funcs config.base schedule.budget schedule.limit schedule.entries
  on_clock other =
      subst (λ (f : List Func). IsStepClock f config.base schedule.budget schedule.limit schedule.entries) own
      (end.clock (λ memory. other (sym why_is ∙ memory)))

  whole : IsWhole funcs schedule (opening ++ more)
  whole = subst (λ (e : Option EndCause). StandsAt e funcs moment i.progress (opening ++ more)) ending way.kept.stands

  some_budget : 1 ≤ schedule.budget
  some_budget = way.kept.within.schedule.budget_low

  some_limit : 2 ≤ schedule.limit
  some_limit = way.kept.within.schedule.limit_low

  files_are : ¬ (why ≡ cause.Memory) → item_files config.base (opening ++ more) ≡ plain_files funcs schedule
  files_are other =
      subst (λ (base : ℕ). item_files base (opening ++ more) ≡ plain_files funcs schedule) head.base
      (whole_runs funcs schedule (opening ++ more) whole (not_short why schedule.entries other ends_for))

  -- where memory ran out, there is no file
  no_files : why ≡ cause.Memory → item_files config.base (opening ++ more) ≡ []
  no_files memory =
      short_turns funcs (record { base = config.base; ring = 0; budget = 0; limit = 0; entries = record { step = 0; time = 0; what = End cause.Memory } ∷ [] }) [] 0 0 opening more opened refl (none_filed memory)

  pub has_ended : HasEnded funcs config why before now i p
  has_ended = record {
    head = head;
    ends = ends_for;
    clock = λ other.
        subst (λ (n : ℕ). IsStepClock funcs config.base n config.limit schedule.entries) head.budget
        (subst (λ (n : ℕ). IsStepClock funcs config.base schedule.budget n schedule.entries) head.limit (on_clock other));
    legal = λ other. clocks_are_legal funcs config.base schedule some_budget some_limit (on_clock other);
    fits = λ other. clocks_fit funcs config.base schedule some_budget some_limit (on_clock other);
    printed = λ other. let steps = sym last_is in way.now_is.printed_is ∙ (λ k. (plain (own k) (steps k)).printed);
    delivers = λ other. all_delivered config.base (opening ++ more) p.course.filing before.parts now.parts (plain_files funcs schedule) way.settled.delivered (files_are other);
    cut = λ memory fresh.
        let none = all_delivered config.base (opening ++ more) p.course.filing before.parts now.parts [] way.settled.delivered (no_files memory) in
        no_parts before.parts now.parts none.number none.within fresh (none.parts fresh);
    counted = way.counted;
  }

-- a run that has ended in this turn
module _ {S : Type 0} (funcs : List Func) (config : IsoConfig) (before now later : Outlet) (i0 i1 : PlainIsolate) (p0 p1 : PlainProcessor S) (r0 r1 : Options) (calls0 calls1 : List Call) (answer : IsoTurn)
    (whole0 : IsWholeRecording r0.interval r0) (whole1 : IsWholeRecording r1.interval r1) (same : r1.interval ≡ r0.interval) (by1 : AreByClock r1 false calls1)
    (g : IsGoing funcs config r0 (begun_on false calls0) before now i0 p0)
    (turned : HasTurned config.base funcs g.moment (g.opening ++ g.more) before later i0 i1 p1 (Some calls0) (Some calls1) answer) where
  pub ended_now : (why : EndCause) → r0.interval ≡ config.base → i1.progress.ending ≡ Some why → HasEnded funcs config why before later i1 p1
  ended_now why base ending =
      let turn = stays funcs config before now later i0 i1 p0 p1 r0 r1 calls0 calls1 answer whole0 whole1 same by1 g turned in
      has_ended funcs config why before later i1 p1 (moment_on g.moment turned.acts) g.opening (g.more ++ raised_on g.moment i0.progress turned.acts)
      (way_now funcs config before now later i0 i1 p0 p1 r0 r1 calls0 calls1 answer whole0 whole1 same by1 g turned)
      (head_now funcs config before now later i0 i1 p0 p1 r0 r1 calls0 calls1 answer whole0 whole1 same by1 g turned)
      (run_funcs g.moment i0.progress (first_phase i0.progress) turned.last turned.acts turned.follow ∙ (g.way.kept.fits.going g.on.going).funcs_are) ending
      (subst (λ (n : ℕ). IsClockEnd n (moment_on g.moment turned.acts) i1.progress) base (turn.ends (λ going. absurd (cc (going, ending))))) g.opened
      (λ memory. none_filed_now funcs config before now later i0 i1 p0 p1 r0 r1 calls0 calls1 answer whole0 whole1 same by1 g turned (λ other is. same_why other why (sym is ∙ ending) ∙ memory))
