-- Turns keep the rules of the schedule, from the first on, and so do samples between turns.
use Rattle.std.proofs.Common.{◌≡◌, suc, ◌≤◌, [], length, refl, ap, sym, subst, ◌∙◌, arith}
use Rattle.std.specs.Prelude.{Bool, true, false, ◌&&◌, ◌||◌, if◌then◌else◌}
use Rattle.std.specs.List.{AllByRecursion}
use Rattle.code_event.proofs.EachElement.{all_mapped}
use Rattle.run_schedule.specs.Schedule.{is_end, EachMayFollow}
use Rattle.run_schedule.specs.declared.schedule.What.TheVariants as what
use Rattle.isolate.specs.RunLaws.{last_time}
use Rattle.isolate_acts.specs.Acts.{moment_on, progress_on}
use Rattle.isolate_acts.specs.Phases.{Phase, at_port, sampling, stepping, closing, must_end, over, first_phase, unless_ended, IsOver}
use Rattle.isolate_acts.specs.Progress.{Moment, Progress, goes_on, is_filled, some_runs}
use Rattle.isolate_acts.specs.Sampling.{after_sample}
use Rattle.isolate_acts.specs.ScheduleSoFar.{MayStandAt, IsGoingWell, KeepsRules, NewSchedulesKeepRules, TurnsKeepRules, SamplesBetweenTurnsKeepRules}
use Rattle.isolate_acts.proofs.ScheduleKept.{moves, runs_some, runs_keep}
use Rattle.isolate_acts.proofs.SchedulePhases.{goes_is, sample_keeps}

and_false : (b : Bool) → (b && false) ≡ false
and_false true = refl
and_false false = refl

-- where no sample was entered at this step, a turn begins at the first port
pub first_is : (p : Progress) → p.is_sampled ≡ false → first_phase p ≡ at_port 0 0
first_is p fresh =
    let later : Phase = if is_filled p then must_end over else stepping in
    ap (λ (b : Bool). if goes_on p && b then later else at_port 0 0) fresh ∙ ap (λ (b : Bool). if b then later else at_port 0 0) (and_false (goes_on p))

pub new_keep : NewSchedulesKeepRules
new_keep p within empty start none fresh =
    let size : length p.schedule.entries ≡ 0 = ap length empty in
    let low = within.schedule.limit_low in
    let some = within.schedule.budget_low in
    subst (KeepsRules p) (sym (first_is p fresh)) (record {
      rules = subst (λ es. EachMayFollow p.schedule [] es) (sym empty) tt;
      going = λ going. record {
        each = subst (λ es. AllByRecursion (λ e. (is_end e.what ≡ false) × (e.step ≤ p.step) × (e.time ≤ last_time p.schedule.entries)) es) (sym empty) tt;
        here = subst (λ es. AllByRecursion (λ e. e.step ≡ p.step → MayStandAt (at_port 0 0) e.what) es) (sym empty) tt;
        phase_is = (omega arith, omega arith);
        time = within.time;
      };
      ended = λ ended. absurd (ended none);
    })

-- where a turn is over, the rules are kept at the beginning of the next
next_turn : (moment : Moment) (p : Progress) (last : Phase) → KeepsRules p last → IsOver moment p last → KeepsRules p (first_phase p)
next_turn moment p over keeps is = record { rules = keeps.rules; going = λ none. absurd (is none); ended = keeps.ended }
next_turn moment p closing keeps is = record {
  rules = keeps.rules;
  going = λ none.
      let well = keeps.going none in
      subst (IsGoingWell p) (sym (first_is p well.phase_is.2)) (record {
        each = well.each;
        here = all_mapped (λ e. e.step ≡ p.step → ⊥) (λ e. e.step ≡ p.step → MayStandAt (at_port 0 0) e.what) p.schedule.entries (λ e not_here same. absurd (not_here same)) well.here;
        phase_is = (well.phase_is.0, is.0.budget);
        time = well.time;
      });
  ended = keeps.ended;
}
next_turn moment p last keeps is = absurd is

pub turns_keep : TurnsKeepRules
turns_keep moment p last acts keeps lead late is =
    next_turn (moment_on moment acts) (progress_on moment p acts) last (runs_keep moment p (first_phase p) last acts keeps lead late) is

-- after a sample a turn begins at the guest's step, or with the end
sampled_well : (q : Progress) (goes sampled filled : Bool) → goes ≡ true → sampled ≡ true
    → IsGoingWell q (if goes && (filled || false) then must_end stepping else stepping)
    → IsGoingWell q (if goes && sampled then (if filled then must_end over else stepping) else at_port 0 0)
sampled_well q true true true yes_ is well = record { each = well.each; here = well.here; phase_is = well.phase_is; time = well.time }
sampled_well q true true false yes_ is well = well
sampled_well q true false filled yes_ is well = absurd (cc is)
sampled_well q false sampled filled yes_ is well = absurd (cc yes_)

sampled_keeps : (q : Progress) → q.is_sampled ≡ true → KeepsRules q (unless_ended q true stepping) → KeepsRules q (first_phase q)
sampled_keeps q is keeps =
    record { rules = keeps.rules; going = λ none. sampled_well q (goes_on q) q.is_sampled (is_filled q) (goes_is q none) is (keeps.going none); ended = keeps.ended }

-- a sample may be taken at the beginning of a turn, while a session runs
before_sample : (p : Progress) → KeepsRules p (first_phase p) → p.is_sampled ≡ false → some_runs p ≡ true → KeepsRules p sampling
before_sample p keeps fresh some =
    moves p (at_port 0 0) sampling (subst (KeepsRules p) (first_is p fresh) keeps) (λ well. record {
      each = well.each;
      here = all_mapped (λ e. e.step ≡ p.step → MayStandAt (at_port 0 0) e.what) (λ e. e.step ≡ p.step → MayStandAt sampling e.what) p.schedule.entries (λ e may same. (may same).0) well.here;
      phase_is = (well.phase_is.0, well.phase_is.1, some);
      time = well.time;
    })

pub samples_keep : SamplesBetweenTurnsKeepRules
samples_keep p now true keeps none fresh some late =
    let before = before_sample p keeps fresh some in
    let phase = (before.going none).phase_is in
    sampled_keeps (after_sample p now true) refl (sample_keeps p now (suc p.ticks) what.Sampled before none refl refl (runs_some p some) (phase.0, phase.1))
samples_keep p now false keeps none fresh some late =
    let before = before_sample p keeps fresh some in
    let phase = (before.going none).phase_is in
    sampled_keeps (after_sample p now false) refl (sample_keeps p now p.ticks what.Dropped before none refl refl (runs_some p some) ((phase.0, phase.1), late))
