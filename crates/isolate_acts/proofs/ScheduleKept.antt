-- Each act keeps the rules of the schedule.
use Rattle.std.proofs.Common.{◌≡◌, ℕ, suc, ◌+◌, ◌<◌, ◌≤◌, [], ◌∷◌, length, refl, ap, sym, subst, arith}
use Rattle.std.proofs.lemmas.Bool.Decides.{nat_tests}
use Rattle.std.specs.Prelude.{Bool, true, false, not, ◌&&◌, ◌||◌, ◌==◌, Some, None, if◌then◌else◌}
use Rattle.std.specs.List.{AllByRecursion}
use Rattle.code_event.proofs.EachElement.{all_mapped}
use Rattle.run_schedule.specs.Schedule.{is_end, IsEndWithin}
use Rattle.run_schedule.specs.declared.limits.TheConstants.{MAX_PORT}
use Rattle.run_schedule.specs.declared.schedule.EndCause.{EndCause}
use Rattle.run_schedule.specs.declared.schedule.EndCause.TheVariants as cause
use Rattle.run_schedule.specs.declared.schedule.What.TheVariants as what
use Rattle.isolate.specs.RunLaws.{last_time}
use Rattle.isolate_acts.specs.Acts.{passes, starts, stops, refuses, cuts_off, asks, samples, steps, ends, ends_short, act_after, moment_after, cut_marks}
use Rattle.isolate_acts.specs.Phases.{Phase, at_port, asking, sampling, stepping, closing, must_end, over, HasRoom, IsDue, after_ports, after_command, unless_ended}
use Rattle.isolate_acts.specs.Progress.{Moment, Progress, entry_now, with_entry, running_now, goes_on, is_filled, some_runs}
use Rattle.isolate_acts.specs.ScheduleSoFar.{MayStandAt, IsInPhase, IsGoingWell, KeepsRules, ActsKeepRules, RunsKeepRules, EndedSchedulesAreLegal}
use Rattle.isolate_acts.proofs.ScheduleMore.{end_keeps}
use Rattle.isolate_acts.proofs.SchedulePhases.{chosen, all_of, filled_is, not_filled, stands_ports, stands_after, phase_ports, phase_after, command_keeps, sample_keeps}

due_within : (moment : Moment) (p : Progress) (why : EndCause) → IsDue moment p why → HasRoom p → p.step ≤ p.schedule.budget → IsEndWithin p.schedule p.schedule.entries (suc (length p.schedule.entries)) p.step why
due_within moment p cause.Halt due room below = (room, below)
due_within moment p cause.Overflow due room below = (room, below)
due_within moment p cause.OffEnd due room below = (room, below)
due_within moment p cause.Budget due room below = (room, due.1)
due_within moment p cause.Full due room below = absurd due
due_within moment p cause.Memory due room below = absurd due

must_within : (p : Progress) (later : Phase) (why : EndCause) → why ≡ (if is_filled p then cause.Full else cause.Memory) → IsInPhase p (must_end later) → length p.schedule.entries < p.schedule.limit
    → IsEndWithin p.schedule p.schedule.entries (suc (length p.schedule.entries)) p.step why
must_within p later why is phase room =
    let below = phase.1 in
    subst (λ w. IsEndWithin p.schedule p.schedule.entries (suc (length p.schedule.entries)) p.step w) (sym is)
    (elim (is_filled p) as (λ (b : Bool). is_filled p ≡ b → IsEndWithin p.schedule p.schedule.entries (suc (length p.schedule.entries)) p.step (if b then cause.Full else cause.Memory)) [
      | true ↦ λ filled. (filled_is p filled, phase.0 filled, omega arith)
      | false ↦ λ free. (not_filled p free room, omega arith)
    ] refl)

pub runs_some : (p : Progress) → some_runs p ≡ true → 1 ≤ length (running_now p)
runs_some p is = grind (arith, nat_tests, is)

-- the same progress in another phase
pub moves : (p : Progress) (phase next : Phase) → KeepsRules p phase → (IsGoingWell p phase → IsGoingWell p next) → KeepsRules p next
moves p phase next keeps well_ = record { rules = keeps.rules; going = λ none. well_ (keeps.going none); ended = keeps.ended }

-- an end out of memory, where there is room for an entry and for the end
memory_keeps : (p : Progress) (phase : Phase) (now events : ℕ) → KeepsRules p phase → p.ending ≡ None → HasRoom p → p.step < p.schedule.budget
    → (next : Phase) → KeepsRules (record (with_entry p (entry_now p now (what.End cause.Memory))) { events = events; ending = Some cause.Memory }) next
memory_keeps p phase now events keeps none room below next = end_keeps p phase now events cause.Memory keeps none (room, omega arith) next

pub acts_keep : ActsKeepRules
acts_keep moment p (at_port port commands) next (passes from) keeps may late =
    subst (KeepsRules p) (sym may.1)
    (moves p (at_port port commands) (if port == MAX_PORT then after_ports p else at_port (suc port) commands) keeps (λ well_. record {
      each = well_.each;
      here =
          all_mapped (λ e. e.step ≡ p.step → MayStandAt (at_port port commands) e.what) (λ e. e.step ≡ p.step → MayStandAt (if port == MAX_PORT then after_ports p else at_port (suc port) commands) e.what) p.schedule.entries
          (λ e stands same.
          let there = stands same in
          chosen (λ f. MayStandAt f e.what) (port == MAX_PORT) (after_ports p) (at_port (suc port) commands) (λ last. stands_ports p port commands e.what there)
          (λ more. (there.0, (λ k is. let le = there.1 k is in omega arith)))) well_.here;
      phase_is = chosen (IsInPhase p) (port == MAX_PORT) (after_ports p) (at_port (suc port) commands) (λ last. phase_ports p well_.phase_is.0 well_.phase_is.1) (λ more. well_.phase_is);
      time = well_.time;
    }))
acts_keep moment p (at_port port commands) next (starts options now is_taken) keeps may late =
    let take = may.0 in
    subst (KeepsRules (act_after moment p (starts options now is_taken))) (sym may.4)
    (command_keeps p port commands now (suc p.events) (suc p.ticks) (what.Start options) is_taken keeps may.1 refl refl (ap (λ (n : ℕ). Some n) take.port_is) may.2 (may.3, (keeps.going may.1).phase_is.1))
acts_keep moment p (at_port port commands) next (stops from number now is_taken) keeps may late =
    let take = may.0 in
    subst (KeepsRules (act_after moment p (stops from number now is_taken))) (sym may.4)
    (command_keeps p port commands now (suc p.events) p.ticks (what.Stop from number) is_taken keeps may.1 refl refl (ap (λ (n : ℕ). Some n) take.port_is) may.2 (may.3, (keeps.going may.1).phase_is.1))
acts_keep moment p (at_port port commands) next (refuses from given answer is_taken) keeps may late =
    subst (KeepsRules p) (sym may.2)
    (moves p (at_port port commands) (unless_ended p is_taken (after_command p port (suc commands))) keeps (λ well_.
    let stands : AllByRecursion (λ e. e.step ≡ p.step → MayStandAt (after_command p port (suc commands)) e.what) p.schedule.entries =
    all_mapped (λ e. e.step ≡ p.step → MayStandAt (at_port port commands) e.what) (λ e. e.step ≡ p.step → MayStandAt (after_command p port (suc commands)) e.what) p.schedule.entries
    (λ e there same. stands_after p port commands (suc commands) e.what (there same)) well_.here in
    let room = well_.phase_is.0 in
    let none_filled : is_filled p ≡ false = grind (arith, nat_tests, room) in
    chosen (IsGoingWell p) (goes_on p && (is_filled p || not is_taken)) (must_end (after_command p port (suc commands))) (after_command p port (suc commands))
    (λ must. record { each = well_.each; here = stands; phase_is = ((λ filled. absurd (cc (filled, none_filled))), well_.phase_is.1); time = well_.time })
    (λ free. record { each = well_.each; here = stands; phase_is = phase_after p port (suc commands) room well_.phase_is.1; time = well_.time })))
acts_keep moment p (at_port port commands) next (cuts_off from given is_marked now is_taken) keeps may late =
    memory_keeps p (at_port port commands) now (suc (p.events + length (cut_marks p given is_marked now))) keeps may.1 may.3 (keeps.going may.1).phase_is.1 next
acts_keep moment p asking next (asks is_asked) keeps may late =
    subst (KeepsRules p) (sym may.3)
    (moves p asking (if is_asked then sampling else stepping) keeps (λ well_.
    chosen (IsGoingWell p) is_asked sampling stepping
    (λ yes_. record { each = well_.each; here = well_.here; phase_is = (well_.phase_is.0, well_.phase_is.1, may.1); time = well_.time })
    (λ no_. record { each = well_.each; here = all_of (λ e. e.step ≡ p.step → Unit {0}) p.schedule.entries (λ e same. tt); phase_is = well_.phase_is; time = well_.time })))
acts_keep moment p sampling next (samples now true) keeps may late =
    let well_ = keeps.going may.0 in
    subst (KeepsRules (act_after moment p (samples now true))) (sym may.2)
    (sample_keeps p now (suc p.ticks) what.Sampled keeps may.0 refl refl (runs_some p well_.phase_is.2) (may.1, well_.phase_is.1))
acts_keep moment p sampling next (samples now false) keeps may late =
    let well_ = keeps.going may.0 in
    subst (KeepsRules (act_after moment p (samples now false))) (sym may.2)
    (sample_keeps p now p.ticks what.Dropped keeps may.0 refl refl (runs_some p well_.phase_is.2) ((may.1, well_.phase_is.1), late))
acts_keep moment p stepping next (steps after events) keeps may late =
    let well_ = keeps.going may.0 in
    let room = well_.phase_is.0 in
    let below = well_.phase_is.1 in
    subst (KeepsRules (act_after moment p (steps after events))) (sym may.3)
    (record {
      rules = keeps.rules;
      going = λ none. record {
        each = all_mapped (λ e. (is_end e.what ≡ false) × (e.step ≤ p.step) × (e.time ≤ last_time p.schedule.entries)) (λ e. (is_end e.what ≡ false) × (e.step ≤ suc p.step) × (e.time ≤ last_time p.schedule.entries)) p.schedule.entries
            (λ e all. let early = all.1 in (all.0, omega arith, all.2)) well_.each;
        here = all_mapped (λ e. (is_end e.what ≡ false) × (e.step ≤ p.step) × (e.time ≤ last_time p.schedule.entries)) (λ e. e.step ≡ suc p.step → ⊥) p.schedule.entries
            (λ e all same. let early = all.1 in absurd (omega arith)) well_.each;
        phase_is = (room, omega arith, refl);
        time = well_.time;
      };
      ended = keeps.ended;
    })
acts_keep moment p stepping next (ends_short events now) keeps may late =
    let well_ = keeps.going may.0.going in
    memory_keeps p stepping now (suc (p.events + length events)) keeps may.0.going well_.phase_is.0 well_.phase_is.1 next
acts_keep moment p closing next (ends why now) keeps may late =
    let going = may.0.going in
    let well_ = keeps.going going in
    end_keeps p closing now (suc p.events) why keeps going (due_within moment p why may.1 well_.phase_is.0 well_.phase_is.1) next
acts_keep moment p (must_end later) next (ends why now) keeps may late =
    let going = may.0.going in
    end_keeps p (must_end later) now (suc p.events) why keeps going (must_within p later why may.1 (keeps.going going).phase_is may.0.place) next
acts_keep moment p over next (passes from) keeps may late = absurd may
acts_keep moment p over next (starts options now is_taken) keeps may late = absurd may
acts_keep moment p over next (stops from number now is_taken) keeps may late = absurd may
acts_keep moment p over next (refuses from given answer is_taken) keeps may late = absurd may
acts_keep moment p over next (cuts_off from given is_marked now is_taken) keeps may late = absurd may
acts_keep moment p over next (asks is_asked) keeps may late = absurd may
acts_keep moment p over next (samples now is_in) keeps may late = absurd may
acts_keep moment p over next (steps after events) keeps may late = absurd may
acts_keep moment p over next (ends why now) keeps may late = absurd may
acts_keep moment p over next (ends_short events now) keeps may late = absurd may
acts_keep moment p phase next act keeps may late = absurd may

pub runs_keep : RunsKeepRules
runs_keep moment p phase last [] keeps lead late = subst (KeepsRules p) (sym lead) keeps
runs_keep moment p phase last (act ∷ acts) keeps lead late =
    runs_keep (moment_after moment act) (act_after moment p act) lead.0 last acts (acts_keep moment p phase lead.0 act keeps lead.1 late.0) lead.2 late.1

pub ended_legal : EndedSchedulesAreLegal
ended_legal p phase keeps ended = record { each = keeps.rules; ended = keeps.ended ended }
