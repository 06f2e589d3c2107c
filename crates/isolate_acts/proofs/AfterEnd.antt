-- Where a turn is once the isolate has ended.
use Rattle.std.proofs.Common.{◌≡◌, ℕ, suc, List, [], ◌∷◌, refl, sym, subst}
use Rattle.std.specs.Prelude.{Bool, true, false, not, ◌==◌, ◌&&◌, ◌||◌, Option, Some, None, is_none, if◌then◌else◌}
use Rattle.run_schedule.specs.declared.limits.TheConstants.{MAX_PORT}
use Rattle.run_schedule.specs.declared.schedule.EndCause.{EndCause}
use Rattle.isolate_acts.specs.ActLaws.{OnlyCommandsFollowTheEnd}
use Rattle.isolate_acts.specs.Acts.{Act, passes, starts, stops, refuses, cuts_off, asks, samples, steps, ends, ends_short, act_after, moment_after, progress_on}
use Rattle.isolate_acts.specs.Phases.{Phase, at_port, asking, sampling, stepping, closing, must_end, over, MayAct, LeadTo, IsAfterEnd, after_ports, after_command, after_end, first_phase, most_commands, unless_ended}
use Rattle.isolate_acts.specs.Progress.{Moment, Progress, is_filled, some_runs}

none_goes_on : (ending : Option EndCause) → ¬ (ending ≡ None) → is_none ending ≡ false
none_goes_on None ended = absurd (ended refl)
none_goes_on (Some cause) ended = refl

one_of : (b : Bool) (one other : Phase) → IsAfterEnd one → IsAfterEnd other → IsAfterEnd (if b then one else other)
one_of true one other is other_is = is
one_of false one other is other_is = other_is

after_ports_is : (p : Progress) → ¬ (p.ending ≡ None) → IsAfterEnd (after_ports p)
after_ports_is p ended = subst (λ (b : Bool). IsAfterEnd (if not b then over else if some_runs p then asking else stepping)) (sym (none_goes_on p.ending ended)) tt

after_command_is : (p : Progress) (port commands : ℕ) → ¬ (p.ending ≡ None) → IsAfterEnd (after_command p port commands)
after_command_is p port commands ended = one_of (commands == most_commands) (after_ports p) (at_port port commands) (after_ports_is p ended) tt

unless_ended_is : (p : Progress) (is_taken : Bool) (phase : Phase) → ¬ (p.ending ≡ None) → IsAfterEnd phase → IsAfterEnd (unless_ended p is_taken phase)
unless_ended_is p is_taken phase ended is =
    subst (λ (b : Bool). IsAfterEnd (if b && (is_filled p || not is_taken) then must_end phase else phase)) (sym (none_goes_on p.ending ended)) is

after_end_is : (phase : Phase) → IsAfterEnd (after_end phase)
after_end_is (at_port port commands) = tt
after_end_is asking = tt
after_end_is sampling = tt
after_end_is stepping = tt
after_end_is closing = tt
after_end_is (must_end later) = tt
after_end_is over = tt

first_is : (p : Progress) → ¬ (p.ending ≡ None) → IsAfterEnd (first_phase p)
first_is p ended =
    subst (λ (b : Bool). IsAfterEnd (if b && p.is_sampled then (if is_filled p then must_end over else stepping) else at_port 0 0)) (sym (none_goes_on p.ending ended)) tt

sample_goes_on : (moment : Moment) (p : Progress) (now : ℕ) (is_in : Bool) → p.ending ≡ None → (act_after moment p (samples now is_in)).ending ≡ None
sample_goes_on moment p now true going = going
sample_goes_on moment p now false going = going

act_leads : (moment : Moment) (p : Progress) (phase next : Phase) (act : Act) → (¬ (p.ending ≡ None) → IsAfterEnd phase) → MayAct moment p phase act next
    → ¬ ((act_after moment p act).ending ≡ None) → IsAfterEnd next
act_leads moment p (at_port port commands) next (passes from) is may ended =
    subst IsAfterEnd (sym may.1) (one_of (port == MAX_PORT) (after_ports p) (at_port (suc port) commands) (after_ports_is p ended) tt)
act_leads moment p (at_port port commands) next (refuses from given answer is_taken) is may ended =
    subst IsAfterEnd (sym may.2) (unless_ended_is p is_taken (after_command p port (suc commands)) ended (after_command_is p port (suc commands) ended))
act_leads moment p (at_port port commands) next (cuts_off from given is_marked now is_taken) is may ended =
    subst IsAfterEnd (sym may.4) (after_command_is (act_after moment p (cuts_off from given is_marked now is_taken)) port (suc commands) ended)
act_leads moment p (at_port port commands) next (starts options now is_taken) is may ended = absurd (ended may.1)
act_leads moment p (at_port port commands) next (stops from number now is_taken) is may ended = absurd (ended may.1)
act_leads moment p asking next (asks is_asked) is may ended = absurd (ended may.0)
act_leads moment p sampling next (samples now is_in) is may ended = absurd (ended (sample_goes_on moment p now is_in may.0))
act_leads moment p stepping next (steps after events) is may ended = absurd (ended may.0)
act_leads moment p stepping next (ends_short events now) is may ended = subst IsAfterEnd (sym may.2) tt
act_leads moment p closing next (ends why now) is may ended = subst IsAfterEnd (sym may.2) tt
act_leads moment p (must_end later) next (ends why now) is may ended = subst IsAfterEnd (sym may.2) (after_end_is later)
act_leads moment p phase next act is may ended = absurd may

run_leads : (moment : Moment) (p : Progress) (phase last : Phase) (acts : List Act) → (¬ (p.ending ≡ None) → IsAfterEnd phase) → LeadTo moment p phase acts last
    → ¬ ((progress_on moment p acts).ending ≡ None) → IsAfterEnd last
run_leads moment p phase last [] is lead ended = subst IsAfterEnd (sym lead) (is ended)
run_leads moment p phase last (act ∷ acts) is lead ended =
    run_leads (moment_after moment act) (act_after moment p act) lead.0 last acts (act_leads moment p phase lead.0 act is lead.1) lead.2 ended

pub only_commands : OnlyCommandsFollowTheEnd
only_commands moment p last acts lead ended = run_leads moment p (first_phase p) last acts (first_is p) lead ended
