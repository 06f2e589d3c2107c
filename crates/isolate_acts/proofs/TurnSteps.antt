-- At which step a turn is.
use Rattle.std.proofs.Common.{◌≡◌, ℕ, suc, List, [], ◌∷◌, refl, ap, sym, subst, ◌∙◌}
use Rattle.std.specs.Prelude.{Bool, true, false, not, ◌==◌, ◌&&◌, ◌||◌, Some, None, if◌then◌else◌}
use Rattle.run_schedule.specs.declared.limits.TheConstants.{MAX_PORT}
use Rattle.run_schedule.specs.declared.schedule.EndCause.{EndCause}
use Rattle.run_schedule.specs.declared.schedule.EndCause.TheVariants as cause
use Rattle.isolate_acts.specs.Acts.{Act, passes, starts, stops, refuses, cuts_off, asks, samples, steps, ends, ends_short, act_after, moment_after, moment_on, progress_on}
use Rattle.isolate_acts.specs.Phases.{Phase, at_port, asking, sampling, stepping, closing, must_end, over, MayAct, LeadTo, IsDue, IsOver, after_ports, after_command, after_end, first_phase, most_commands, unless_ended}
use Rattle.isolate_acts.specs.Progress.{Moment, Progress, goes_on, is_filled, some_runs}
use Rattle.isolate_acts.specs.Sampling.{after_sample}
use Rattle.isolate_acts.specs.TurnLaws.{EndsOutOfMemoryAreAtTheFirstStep, TurnsDoOneStep}

-- where a turn that began at this step is: it has done its one step where it is after it, and none before
abbrev IsAtStep : ℕ → Progress → Phase → Type 0
IsAtStep first p closing = (p.step ≡ suc first) × (p.ending ≡ None)
IsAtStep first p over = p.ending ≡ Some cause.Memory → p.step ≡ first
IsAtStep first p other = p.step ≡ first

module _ (first : ℕ) (p : Progress) where
  chosen : (b : Bool) (one other : Phase) → IsAtStep first p one → IsAtStep first p other → IsAtStep first p (if b then one else other)
  chosen true one other is other_is = is
  chosen false one other is other_is = other_is

  module _ (at : p.step ≡ first) where
    after_ports_at : IsAtStep first p (after_ports p)
    after_ports_at =
        chosen (not (goes_on p)) over (if some_runs p then asking else stepping) (λ memory. at) (chosen (some_runs p) asking stepping at at)

    after_command_at : (port commands : ℕ) → IsAtStep first p (after_command p port commands)
    after_command_at port commands = chosen (commands == most_commands) (after_ports p) (at_port port commands) after_ports_at at

    unless_ended_at : (is_taken : Bool) (phase : Phase) → IsAtStep first p phase → IsAtStep first p (unless_ended p is_taken phase)
    unless_ended_at is_taken phase is = chosen (goes_on p && (is_filled p || not is_taken)) (must_end phase) phase at is

    after_end_at : (phase : Phase) → IsAtStep first p (after_end phase)
    after_end_at (at_port port commands) = at
    after_end_at asking = λ memory. at
    after_end_at sampling = λ memory. at
    after_end_at stepping = λ memory. at
    after_end_at closing = λ memory. at
    after_end_at (must_end later) = λ memory. at
    after_end_at over = λ memory. at

-- no end out of memory is due after a step
due_at : (first : ℕ) (moment : Moment) (p after : Progress) (why : EndCause) → IsDue moment p why → after.ending ≡ Some why → IsAtStep first after over
due_at first moment p after cause.Halt due is memory = absurd (cc (is, memory))
due_at first moment p after cause.Overflow due is memory = absurd (cc (is, memory))
due_at first moment p after cause.OffEnd due is memory = absurd (cc (is, memory))
due_at first moment p after cause.Budget due is memory = absurd (cc (is, memory))
due_at first moment p after cause.Full due is memory = absurd due
due_at first moment p after cause.Memory due is memory = absurd due

sample_step : (p : Progress) (now : ℕ) (is_in : Bool) → (after_sample p now is_in).step ≡ p.step
sample_step p now true = refl
sample_step p now false = refl

act_at : (first : ℕ) (moment : Moment) (p : Progress) (phase next : Phase) (act : Act) → IsAtStep first p phase → MayAct moment p phase act next → IsAtStep first (act_after moment p act) next
act_at first moment p (at_port port commands) next (passes from) at may =
    subst (IsAtStep first p) (sym may.1) (chosen first p (port == MAX_PORT) (after_ports p) (at_port (suc port) commands) (after_ports_at first p at) at)
act_at first moment p (at_port port commands) next (starts options now is_taken) at may =
    let after = act_after moment p (starts options now is_taken) in
    subst (IsAtStep first after) (sym may.4) (unless_ended_at first after at is_taken (after_command after port (suc commands)) (after_command_at first after at port (suc commands)))
act_at first moment p (at_port port commands) next (stops from number now is_taken) at may =
    let after = act_after moment p (stops from number now is_taken) in
    subst (IsAtStep first after) (sym may.4) (unless_ended_at first after at is_taken (after_command after port (suc commands)) (after_command_at first after at port (suc commands)))
act_at first moment p (at_port port commands) next (refuses from given answer is_taken) at may =
    subst (IsAtStep first p) (sym may.2) (unless_ended_at first p at is_taken (after_command p port (suc commands)) (after_command_at first p at port (suc commands)))
act_at first moment p (at_port port commands) next (cuts_off from given is_marked now is_taken) at may =
    let after = act_after moment p (cuts_off from given is_marked now is_taken) in
    subst (IsAtStep first after) (sym may.4) (after_command_at first after at port (suc commands))
act_at first moment p asking next (asks is_asked) at may = subst (IsAtStep first p) (sym may.3) (chosen first p is_asked sampling stepping at at)
act_at first moment p sampling next (samples now is_in) at may =
    let after = after_sample p now is_in in
    let same : after.step ≡ first = sample_step p now is_in ∙ at in
    subst (IsAtStep first after) (sym may.2) (unless_ended_at first after same true stepping same)
act_at first moment p stepping next (steps then_ events) at may = subst (IsAtStep first (act_after moment p (steps then_ events))) (sym may.3) (ap suc at, may.0)
act_at first moment p stepping next (ends_short events now) at may = subst (IsAtStep first (act_after moment p (ends_short events now))) (sym may.2) (λ memory. at)
act_at first moment p closing next (ends why now) at may =
    let after = act_after moment p (ends why now) in
    subst (IsAtStep first after) (sym may.2) (due_at first moment p after why may.1 refl)
act_at first moment p (must_end later) next (ends why now) at may =
    let after = act_after moment p (ends why now) in
    subst (IsAtStep first after) (sym may.2) (after_end_at first after at later)
act_at first moment p phase next act at may = absurd may

run_at : (first : ℕ) (moment : Moment) (p : Progress) (phase last : Phase) (acts : List Act) → IsAtStep first p phase → LeadTo moment p phase acts last → IsAtStep first (progress_on moment p acts) last
run_at first moment p phase last [] at lead = subst (IsAtStep first p) (sym lead) at
run_at first moment p phase last (act ∷ acts) at lead =
    run_at first (moment_after moment act) (act_after moment p act) lead.0 last acts (act_at first moment p phase lead.0 act at lead.1) lead.2

begins_at : (p : Progress) → IsAtStep p.step p (first_phase p)
begins_at p =
    chosen p.step p (goes_on p && p.is_sampled) (if is_filled p then must_end over else stepping) (at_port 0 0) (chosen p.step p (is_filled p) (must_end over) stepping refl refl) refl

stepped : (first : ℕ) (moment : Moment) (p : Progress) (last : Phase) → IsAtStep first p last → IsOver moment p last → p.ending ≡ None → p.step ≡ suc first
stepped first moment p closing at is_over going = at.0
stepped first moment p over at is_over going = absurd (is_over going)
stepped first moment p last at is_over going = absurd is_over

pub one : TurnsDoOneStep
one moment p last acts lead is_over going =
    stepped p.step (moment_on moment acts) (progress_on moment p acts) last (run_at p.step moment p (first_phase p) last acts (begins_at p) lead) is_over going

short_at : (first : ℕ) (p : Progress) (last : Phase) → IsAtStep first p last → p.ending ≡ Some cause.Memory → p.step ≡ first
short_at first p (at_port port commands) at short = at
short_at first p asking at short = at
short_at first p sampling at short = at
short_at first p stepping at short = at
short_at first p closing at short = let going = at.1 in absurd (cc (going, short))
short_at first p (must_end later) at short = at
short_at first p over at short = at short

pub memory : EndsOutOfMemoryAreAtTheFirstStep
memory moment p last acts lead short = short_at p.step (progress_on moment p acts) last (run_at p.step moment p (first_phase p) last acts (begins_at p) lead) short
