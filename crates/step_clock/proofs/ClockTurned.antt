-- Each turn on the step clock stays on the clock.
use Rattle.std.proofs.Common.{◌≡◌, ℕ, suc, ◌+◌, ◌^◌, ◌<◌, ◌≤◌, List, [], ◌∷◌, ◌++◌, length, refl, ap, sym, subst, ◌∙◌, arith}
use Rattle.std.proofs.Math.Dec.{lit<}
use Rattle.std.proofs.lemmas.Bool.Decides.{nat_tests}
use Rattle.std.proofs.lemmas.List.Sums.{sum_by-append}
use Rattle.std.specs.Prelude.{Bool, true, false, cond, count_by, ◌&&◌, ◌==◌, None, if◌then◌else◌}
use Rattle.code_event.specs.declared.event.Options.{Options}
use Rattle.run_schedule.specs.declared.schedule.ScheduleEntry.{ScheduleEntry}
use Rattle.run_schedule.specs.declared.schedule.What.TheVariants.{Dropped}
use Rattle.guest_program.specs.declared.instr.Func.{Func}
use Rattle.isolate_acts.proofs.FitsKept.{acts_fit}
use Rattle.isolate_acts.proofs.Within.{acts_within}
use Rattle.isolate_acts.specs.Acts.{Act, passes, starts, stops, refuses, cuts_off, asks, samples, steps, ends, ends_short, act_after, act_calls, calls_on, moment_after, moment_on, progress_on}
use Rattle.isolate_acts.specs.FitsSoFar.{FitsSoFar}
use Rattle.isolate_acts.specs.Phases.{Phase, at_port, stepping, closing, must_end, over, LeadTo, IsOver, first_phase}
use Rattle.isolate_acts.specs.Progress.{Moment, Progress, IsWithin, entry_now, goes_on, is_filled}
use Rattle.isolate_ends.specs.Offered.{AreOffered}
use Rattle.port_calls.proofs.Answering.{first_calls, later_calls, state_on-append}
use Rattle.step_clock.specs.ClockCalls.{begun_after, begun_on}
use Rattle.step_clock.specs.ClockTurns.{IsClockTurn, IsOnClock, TurnsStayOnClock}
use Rattle.step_clock.specs.StepClock.{IsWholeRecording, entries_before}
use Rattle.step_clock.proofs.ClockActs.{act_on}
use Rattle.step_clock.proofs.ClockCalled.{EachByClock, IsByClock, each_by_clock}
use Rattle.step_clock.proofs.ClockPhases.{IsAt}

small_step : (p : Progress) → IsWithin p → p.step < 2 ^ 53
small_step p within =
    let step = within.step in
    let budget : p.schedule.budget ≤ 100000000 = within.schedule.budget_high in
    let few : 100000000 < 2 ^ 53 = lit< tt in
    omega (arith, step, budget, few)

-- the guest runs its own program
pub own_program : (funcs : List Func) (moment : Moment) (p : Progress) (phase : Phase) → FitsSoFar funcs moment p phase → p.ending ≡ None → FitsSoFar moment.funcs moment p phase
own_program funcs moment p phase fits going = subst (λ (f : List Func). FitsSoFar f moment p phase) (sym (fits.going going).funcs_are) fits

pub run_on : (r : Options) (funcs : List Func) (begun : Bool) (moment : Moment) (p : Progress) (phase last : Phase) (acts : List Act) → IsWholeRecording r.interval r → IsWithin p
    → FitsSoFar funcs moment p phase → LeadTo moment p phase acts last → EachByClock r begun (calls_on moment p acts)
    → AreOffered false acts → IsAt r begun moment p phase
    → IsAt r (begun_on begun (calls_on moment p acts)) (moment_on moment acts) (progress_on moment p acts) last
run_on r funcs begun moment p phase last [] whole within fits lead by taken at = subst (IsAt r begun moment p) (sym lead) at
run_on r funcs begun moment p phase last (act ∷ acts) whole within fits lead by taken at =
    let then_ = moment_after moment act in
    let after = act_after moment p act in
    let calls = act_calls moment p act in
    let more = calls_on then_ after acts in
    let next = act_on r begun moment p phase lead.0 act whole within (small_step p within) (own_program funcs moment p phase fits) lead.1 (first_calls (IsByClock r) begun_after begun calls more by) taken.0 at in
    subst (λ (b : Bool). IsAt r b (moment_on then_ acts) (progress_on then_ after acts) last) (sym (state_on-append begun_after begun calls more))
    (run_on r funcs (begun_on begun calls) then_ after lead.0 last acts whole (acts_within moment p phase lead.0 act within lead.1) (acts_fit funcs moment p phase lead.0 act fits lead.1) lead.2
    (later_calls (IsByClock r) begun_after begun calls more by) taken.1 next)

none_sampled : (p : Progress) → p.is_sampled ≡ false → first_phase p ≡ at_port 0 0
none_sampled p fresh = ap (λ (b : Bool). if b then (if is_filled p then must_end over else stepping) else at_port 0 0) (neither (goes_on p) p.is_sampled fresh) where
  neither : (a b : Bool) → b ≡ false → (a && b) ≡ false
  neither true b is = is
  neither false b is = refl

-- where a turn begins
begins : (r : Options) (begun : Bool) (moment : Moment) (p : Progress) → IsOnClock r begun p → IsAt r begun moment p (first_phase p)
begins r begun moment p on =
    subst (IsAt r begun moment p) (sym (none_sampled p on.fresh))
    (record {
      going = λ going. (on.fresh, on.room, (λ not_yet. (refl, on.first not_yet)), on.entries);
      below = λ going open_. on.below;
      ended = λ over_. absurd (over_ on.going);
    })

-- where a turn is over
turned : (r : Options) (begun : Bool) (moment : Moment) (p : Progress) (last : Phase) → IsOver moment p last → IsAt r begun moment p last → IsClockTurn r begun moment p
turned r begun moment p closing is at = record {
  goes = λ going.
      let had = at.going going in
      record {
        going = going;
        fresh = had.2;
        room = had.1;
        first = λ not_yet. let both = had.0 in absurd (cc (both, not_yet));
        below = is.0.budget;
        entries = had.3 ∙ ap (λ (b : Bool). if b then entries_before r p.step else []) (sym had.0);
      };
  has_begun = λ going. (at.going going).0;
  ends = at.ended;
}
turned r begun moment p over is at = record { goes = λ going. absurd (is going); has_begun = λ going. absurd (is going); ends = at.ended }
turned r begun moment p last is at = absurd is

pub turns_stay : TurnsStayOnClock
turns_stay r begun moment p acts last turn taken =
    turned r (begun_on begun (calls_on moment p acts)) (moment_on moment acts) (progress_on moment p acts) last turn.over
    (run_on r moment.funcs begun moment p (first_phase p) last acts turn.whole turn.within turn.fits turn.follow (each_by_clock r begun (calls_on moment p acts) turn.by_clock)
    taken (begins r begun moment p turn.on_clock))

-- an isolate that opens is on the clock
pub new_on_clock : (r : Options) (p : Progress) → p.ending ≡ None → p.is_sampled ≡ false → p.step ≡ 0 → p.schedule.entries ≡ [] → 2 ≤ p.schedule.limit → 1 ≤ p.schedule.budget → IsOnClock r false p
new_on_clock r p going fresh first empty places steps_ = record {
  going = going;
  fresh = fresh;
  room = subst (λ (es : List ScheduleEntry). (suc (length es) == p.schedule.limit) ≡ false) (sym empty) (not_full p.schedule.limit places);
  first = λ not_yet. first;
  below = omega (arith, first, steps_);
  entries = empty;
} where
  not_full : (limit : ℕ) → 2 ≤ limit → (1 == limit) ≡ false
  not_full limit places = grind (arith, nat_tests)
