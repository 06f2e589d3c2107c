-- Each act enters only what the program reaches.
use Rattle.std.proofs.Common.{◌≡◌, ℕ, suc, ◌-◌, List, [], ◌∷◌, ◌++◌, refl, ap, sym, subst, ◌∙◌, arith}
use Rattle.std.specs.Prelude.{Bool, true, false, not, ◌&&◌, ◌||◌, ◌==◌, Option, Some, None, if◌then◌else◌}
use Rattle.std.specs.List.{AllByRecursion}
use Rattle.guest_program.specs.declared.instr.Func.{Func}
use Rattle.code_event.proofs.EachElement.{all_pushed}
use Rattle.plain_machine.specs.PlainMachine.{plain}
use Rattle.plain_machine.specs.declared.ended.Ended.{Ended}
use Rattle.plain_machine.specs.declared.ended.Ended.TheVariants as ended
use Rattle.run_schedule.specs.declared.limits.TheConstants.{MAX_PORT}
use Rattle.run_schedule.specs.declared.schedule.EndCause.{EndCause}
use Rattle.run_schedule.specs.declared.schedule.EndCause.TheVariants as cause
use Rattle.run_schedule.specs.declared.schedule.ScheduleEntry.{ScheduleEntry}
use Rattle.run_schedule.specs.declared.schedule.What.{What}
use Rattle.run_schedule.specs.declared.schedule.What.TheVariants as what
use Rattle.isolate.specs.Fits.{Fits, IsGoing, MayComeAbout, MayEndFor}
use Rattle.isolate_acts.specs.Acts.{passes, starts, stops, refuses, cuts_off, asks, samples, steps, ends, ends_short, act_after, moment_after, moment_on, progress_on}
use Rattle.isolate_acts.specs.FitsSoFar.{HasNotEnded, IsAtStep, FitsSoFar, ActsFit, RunsFit, NewSchedulesFit, TurnsFit, SamplesBetweenTurnsFit}
use Rattle.isolate_acts.specs.Phases.{Phase, at_port, asking, sampling, stepping, closing, must_end, over, IsDue, IsOver, first_phase, after_ports, after_command, unless_ended, most_commands}
use Rattle.isolate_acts.specs.Progress.{Moment, Progress, entry_now, goes_on, is_filled, some_runs}
use Rattle.isolate_acts.specs.Sampling.{after_sample}
use Rattle.isolate_acts.proofs.SchedulePhases.{chosen}

-- one more entry that the program reaches
fits_more : (funcs : List Func) (p : Progress) (now : ℕ) (w : What) → Fits funcs p.schedule → MayComeAbout funcs p.step w
    → AllByRecursion (λ (e : ScheduleEntry). MayComeAbout funcs e.step e.what) (p.schedule.entries ++ entry_now p now w ∷ [])
fits_more funcs p now w fits may = all_pushed (λ (e : ScheduleEntry). MayComeAbout funcs e.step e.what) p.schedule.entries (entry_now p now w) fits may

-- the machine's end is that of the program at the step that is reached
at_step : (funcs : List Func) (moment : Moment) (p : Progress) (phase : Phase) (how : Option Ended) → IsAtStep funcs moment p phase → (plain moment.funcs moment.steps).ended ≡ how → (plain funcs p.step).ended ≡ how
at_step funcs moment p phase how at is =
    subst (λ (f : List Func). (plain f p.step).ended ≡ how) at.funcs_are (subst (λ (n : ℕ). (plain moment.funcs n).ended ≡ how) at.steps_are is)

due_fits : (funcs : List Func) (moment : Moment) (p : Progress) (why : EndCause) → IsAtStep funcs moment p closing → IsDue moment p why → MayEndFor funcs p.step why
due_fits funcs moment p cause.Halt at due = (at.machine, at_step funcs moment p closing (Some ended.Halt) at due)
due_fits funcs moment p cause.Overflow at due = (at.machine, at_step funcs moment p closing (Some ended.Overflow) at due)
due_fits funcs moment p cause.OffEnd at due = (at.machine, at_step funcs moment p closing (Some ended.OffEnd) at due)
due_fits funcs moment p cause.Budget at due = at_step funcs moment p closing None at due.0
due_fits funcs moment p cause.Full at due = absurd due
due_fits funcs moment p cause.Memory at due = absurd due

must_fit : (funcs : List Func) (step : ℕ) (filled : Bool) (why : EndCause) → why ≡ (if filled then cause.Full else cause.Memory) → IsGoing funcs step → MayEndFor funcs step why
must_fit funcs step true why is going = subst (MayEndFor funcs step) (sym is) going
must_fit funcs step false why is going = subst (MayEndFor funcs step) (sym is) going

-- where a turn goes on at the same step, the machine has not ended
module _ (funcs : List Func) (step : ℕ) (going : IsGoing funcs step) where
  goes_ports : (q : Progress) → HasNotEnded funcs step (after_ports q)
  goes_ports q =
      chosen (HasNotEnded funcs step) (not (goes_on q)) over (if some_runs q then asking else stepping) (λ ended. going)
      (λ on. chosen (HasNotEnded funcs step) (some_runs q) asking stepping (λ runs. going) (λ none. going))

  goes_after : (q : Progress) (port commands : ℕ) → HasNotEnded funcs step (after_command q port commands)
  goes_after q port commands = chosen (HasNotEnded funcs step) (commands == most_commands) (after_ports q) (at_port port commands) (λ most. goes_ports q) (λ fewer. going)

  goes_unless : (q : Progress) (is_taken : Bool) (phase : Phase) → HasNotEnded funcs step phase → HasNotEnded funcs step (unless_ended q is_taken phase)
  goes_unless q is_taken phase goes = chosen (HasNotEnded funcs step) (goes_on q && (is_filled q || not is_taken)) (must_end phase) phase (λ must. going) (λ free. goes)

  goes_command : (q : Progress) (is_taken : Bool) (port commands : ℕ) → HasNotEnded funcs step (unless_ended q is_taken (after_command q port commands))
  goes_command q is_taken port commands = goes_unless q is_taken (after_command q port commands) (goes_after q port commands)

  goes_first : (q : Progress) → HasNotEnded funcs step (first_phase q)
  goes_first q =
      chosen (HasNotEnded funcs step) (goes_on q && q.is_sampled) (if is_filled q then must_end over else stepping) (at_port 0 0)
      (λ sampled. chosen (HasNotEnded funcs step) (is_filled q) (must_end over) stepping (λ filled. going) (λ free. going)) (λ fresh. going)

-- the guest stays where it is, and the turn goes on in another phase
stays : (funcs : List Func) (moment : Moment) (p q : Progress) (phase next : Phase) → IsAtStep funcs moment p phase → q.step ≡ p.step → HasNotEnded funcs p.step next → IsAtStep funcs moment q next
stays funcs moment p q phase next at same goes =
    record { funcs_are = at.funcs_are; steps_are = at.steps_are ∙ sym same; machine = subst (λ (n : ℕ). HasNotEnded funcs n next) (sym same) goes }

pub acts_fit : ActsFit
acts_fit funcs moment p (at_port port commands) next (passes from) fits may = record {
  each = fits.each;
  going = λ none.
      let at = fits.going none in
      stays funcs moment p p (at_port port commands) next at refl
      (subst (HasNotEnded funcs p.step) (sym may.1)
      (chosen (HasNotEnded funcs p.step) (port == MAX_PORT) (after_ports p) (at_port (suc port) commands) (λ last. goes_ports funcs p.step at.machine p) (λ more. at.machine)));
}
acts_fit funcs moment p (at_port port commands) next (starts options now is_taken) fits may =
    let at = fits.going may.1 in
    let q = act_after moment p (starts options now is_taken) in
    record {
      each = fits_more funcs p now (what.Start options) fits.each at.machine;
      going = λ none. stays funcs moment p q (at_port port commands) next at refl (subst (HasNotEnded funcs p.step) (sym may.4) (goes_command funcs p.step at.machine q is_taken port (suc commands)));
    }
acts_fit funcs moment p (at_port port commands) next (stops from number now is_taken) fits may =
    let at = fits.going may.1 in
    let q = act_after moment p (stops from number now is_taken) in
    record {
      each = fits_more funcs p now (what.Stop from number) fits.each at.machine;
      going = λ none. stays funcs moment p q (at_port port commands) next at refl (subst (HasNotEnded funcs p.step) (sym may.4) (goes_command funcs p.step at.machine q is_taken port (suc commands)));
    }
acts_fit funcs moment p (at_port port commands) next (refuses from given answer is_taken) fits may = record {
  each = fits.each;
  going = λ none.
      let at = fits.going none in
      stays funcs moment p p (at_port port commands) next at refl (subst (HasNotEnded funcs p.step) (sym may.2) (goes_command funcs p.step at.machine p is_taken port (suc commands)));
}
acts_fit funcs moment p (at_port port commands) next (cuts_off from given is_marked now is_taken) fits may =
    record { each = fits_more funcs p now (what.End cause.Memory) fits.each (fits.going may.1).machine; going = λ none. absurd (cc none) }
acts_fit funcs moment p asking next (asks is_asked) fits may = record {
  each = fits.each;
  going = λ none.
      let at = fits.going none in
      stays funcs moment p p asking next at refl
      (subst (HasNotEnded funcs p.step) (sym may.3) (chosen (HasNotEnded funcs p.step) is_asked sampling stepping (λ yes_. at.machine) (λ no_. at.machine)));
}
acts_fit funcs moment p sampling next (samples now true) fits may =
    let at = fits.going may.0 in
    let q = after_sample p now true in
    record {
      each = fits_more funcs p now what.Sampled fits.each at.machine;
      going = λ none. stays funcs moment p q sampling next at refl (subst (HasNotEnded funcs p.step) (sym may.2) (goes_unless funcs p.step at.machine q true stepping at.machine));
    }
acts_fit funcs moment p sampling next (samples now false) fits may =
    let at = fits.going may.0 in
    let q = after_sample p now false in
    record {
      each = fits_more funcs p now what.Dropped fits.each at.machine;
      going = λ none. stays funcs moment p q sampling next at refl (subst (HasNotEnded funcs p.step) (sym may.2) (goes_unless funcs p.step at.machine q true stepping at.machine));
    }
acts_fit funcs moment p stepping next (steps after events) fits may = record {
  each = fits.each;
  going = λ none.
      let at = fits.going none in
      let is_step = may.1 in
      let back : suc p.step - 1 ≡ p.step = omega arith in
      record {
        funcs_are = is_step.funcs ∙ at.funcs_are;
        steps_are = is_step.steps ∙ ap (λ (n : ℕ). suc n) at.steps_are;
        machine = subst (HasNotEnded funcs (suc p.step)) (sym may.3) (subst (IsGoing funcs) (sym back) at.machine);
      };
}
acts_fit funcs moment p stepping next (ends_short events now) fits may =
    record { each = fits_more funcs p now (what.End cause.Memory) fits.each (fits.going may.0.going).machine; going = λ none. absurd (cc none) }
acts_fit funcs moment p closing next (ends why now) fits may =
    record { each = fits_more funcs p now (what.End why) fits.each (due_fits funcs moment p why (fits.going may.0.going) may.1); going = λ none. absurd (cc none) }
acts_fit funcs moment p (must_end later) next (ends why now) fits may =
    record { each = fits_more funcs p now (what.End why) fits.each (must_fit funcs p.step (is_filled p) why may.1 (fits.going may.0.going).machine); going = λ none. absurd (cc none) }
acts_fit funcs moment p over next (passes from) fits may = absurd may
acts_fit funcs moment p over next (starts options now is_taken) fits may = absurd may
acts_fit funcs moment p over next (stops from number now is_taken) fits may = absurd may
acts_fit funcs moment p over next (refuses from given answer is_taken) fits may = absurd may
acts_fit funcs moment p over next (cuts_off from given is_marked now is_taken) fits may = absurd may
acts_fit funcs moment p over next (asks is_asked) fits may = absurd may
acts_fit funcs moment p over next (samples now is_in) fits may = absurd may
acts_fit funcs moment p over next (steps after events) fits may = absurd may
acts_fit funcs moment p over next (ends why now) fits may = absurd may
acts_fit funcs moment p over next (ends_short events now) fits may = absurd may
acts_fit funcs moment p phase next act fits may = absurd may

pub runs_fit : RunsFit
runs_fit funcs moment p phase last [] fits lead = subst (FitsSoFar funcs moment p) (sym lead) fits
runs_fit funcs moment p phase last (act ∷ acts) fits lead =
    runs_fit funcs (moment_after moment act) (act_after moment p act) lead.0 last acts (acts_fit funcs moment p phase lead.0 act fits lead.1) lead.2

pub new_fits : NewSchedulesFit
new_fits moment p empty start before = record {
  each = subst (λ es. AllByRecursion (λ (e : ScheduleEntry). MayComeAbout moment.funcs e.step e.what) es) (sym empty) tt;
  going = λ none. record {
    funcs_are = refl;
    steps_are = before ∙ sym start;
    machine = goes_first moment.funcs p.step (subst (IsGoing moment.funcs) (sym start) refl) p;
  };
}

-- where a turn is over, the schedule fits at the beginning of the next
next_fits : (funcs : List Func) (moment : Moment) (p : Progress) (last : Phase) → FitsSoFar funcs moment p last → IsOver moment p last → FitsSoFar funcs moment p (first_phase p)
next_fits funcs moment p over fits is = record { each = fits.each; going = λ none. absurd (is none) }
next_fits funcs moment p closing fits is = record {
  each = fits.each;
  going = λ none.
      let at = fits.going none in
      stays funcs moment p p closing (first_phase p) at refl (goes_first funcs p.step (at_step funcs moment p closing None at is.0.going) p);
}
next_fits funcs moment p last fits is = absurd is

pub turns_fit : TurnsFit
turns_fit funcs moment p last acts fits lead is =
    next_fits funcs (moment_on moment acts) (progress_on moment p acts) last (runs_fit funcs moment p (first_phase p) last acts fits lead) is

-- where a turn begins the machine has not ended
first_goes : (funcs : List Func) (step : ℕ) (begun filled : Bool) → HasNotEnded funcs step (if begun then (if filled then must_end over else stepping) else at_port 0 0) → IsGoing funcs step
first_goes funcs step true true goes = goes
first_goes funcs step true false goes = goes
first_goes funcs step false filled goes = goes

pub samples_fit : SamplesBetweenTurnsFit
samples_fit funcs moment p now true fits none =
    let at = fits.going none in
    let going = first_goes funcs p.step (goes_on p && p.is_sampled) (is_filled p) at.machine in
    let q = after_sample p now true in
    record { each = fits_more funcs p now what.Sampled fits.each going; going = λ on. stays funcs moment p q (first_phase p) (first_phase q) at refl (goes_first funcs p.step going q) }
samples_fit funcs moment p now false fits none =
    let at = fits.going none in
    let going = first_goes funcs p.step (goes_on p && p.is_sampled) (is_filled p) at.machine in
    let q = after_sample p now false in
    record { each = fits_more funcs p now what.Dropped fits.each going; going = λ on. stays funcs moment p q (first_phase p) (first_phase q) at refl (goes_first funcs p.step going q) }
