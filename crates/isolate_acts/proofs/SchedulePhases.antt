-- What may stand where a turn goes on, and which places and steps are left there.
use Rattle.std.proofs.Common.{◌≡◌, ◌≢◌, ℕ, suc, ◌+◌, ◌^◌, ◌<◌, ◌≤◌, List, [], ◌∷◌, length, length-append, refl, ap, sym, ◌∙◌, arith, lt_of_not-le}
use Rattle.std.proofs.lemmas.Bool.Decides.{nat_tests}
use mathlib.Core.Logic.{dite}
use native.Mathlib.Decide.{dec_le}
use Rattle.std.specs.Prelude.{Bool, true, false, not, ◌&&◌, ◌||◌, ◌==◌, is_none, Some, None, if◌then◌else◌}
use Rattle.std.specs.List.{AllByRecursion}
use Rattle.code_event.proofs.EachElement.{all_mapped, all_pushed}
use Rattle.run_schedule.specs.Schedule.{is_sample, is_end, HasSession, IsAtLastStep, IsWithinLimits}
use Rattle.run_schedule.specs.ScheduleParts.{port_of}
use Rattle.run_schedule.specs.declared.schedule.What.{What}
use Rattle.isolate.specs.RunLaws.{last_time}
use Rattle.isolate_acts.specs.Phases.{Phase, at_port, asking, sampling, stepping, must_end, over, HasRoom, after_ports, after_command, unless_ended, most_commands}
use Rattle.isolate_acts.specs.Progress.{Progress, running_now, entry_now, with_entry, goes_on, is_filled, some_runs}
use Rattle.isolate_acts.specs.ScheduleSoFar.{MayStandAt, IsInPhase, IsGoingWell, KeepsRules}
use Rattle.isolate_acts.proofs.ScheduleMore.{last_is, in_order, entered_each, rules_more, time_later, time_within}

-- what holds of both phases holds of the one that is chosen
pub chosen : (P : Phase → Type 0) (b : Bool) (one other : Phase) → (b ≡ true → P one) → (b ≡ false → P other) → P (if b then one else other)
chosen P true one other yes_ no_ = yes_ refl
chosen P false one other yes_ no_ = no_ refl

pub all_of : {A : Type 0} (P : A → Type 0) (xs : List A) → ((x : A) → P x) → AllByRecursion P xs
all_of P [] each = tt
all_of P (x ∷ xs) each = (each x, all_of P xs each)

pub filled_is : (q : Progress) → is_filled q ≡ true → suc (length q.schedule.entries) ≡ q.schedule.limit
filled_is q is = grind (arith, nat_tests, is)

pub not_filled : (q : Progress) → is_filled q ≡ false → length q.schedule.entries < q.schedule.limit → HasRoom q
not_filled q is below =
    let other : suc (length q.schedule.entries) ≢ q.schedule.limit = λ e. let t : is_filled q ≡ true = grind (arith, nat_tests, e) in absurd (cc (t, is)) in
    dite (dec_le (suc (suc (length q.schedule.entries))) q.schedule.limit) (λ lt. lt) (λ not_. let ge : q.schedule.limit < suc (suc (length q.schedule.entries)) = lt_of_not-le not_ in absurd (other (omega arith)))

pub goes_is : (q : Progress) → q.ending ≡ None → goes_on q ≡ true
goes_is q none = ap is_none none

-- after an entry that is no end
unless_well : (q : Progress) (is_taken : Bool) (phase : Phase) → IsAtLastStep q.schedule.entries q.step → q.step < q.schedule.budget
    → AllByRecursion (λ e. (is_end e.what ≡ false) × (e.step ≤ q.step) × (e.time ≤ last_time q.schedule.entries)) q.schedule.entries
    → AllByRecursion (λ e. e.step ≡ q.step → MayStandAt phase e.what) q.schedule.entries
    → last_time q.schedule.entries < 2 ^ 53
    → (is_filled q ≡ false → IsInPhase q phase) → (goes_on q ≡ true) → IsGoingWell q (unless_ended q is_taken phase)
unless_well q is_taken phase last below each here time phase_is goes =
    chosen (IsGoingWell q) (goes_on q && (is_filled q || not is_taken)) (must_end phase) phase
    (λ must. record { each = each; here = here; phase_is = ((λ filled. last), below); time = time })
    (λ free. record { each = each; here = here; phase_is = phase_is (not_then (goes_on q) (is_filled q) (not is_taken) goes free); time = time }) where
      not_then : (a b c : Bool) → a ≡ true → (a && (b || c)) ≡ false → b ≡ false
      not_then true true c a_is e = absurd (cc e)
      not_then true false c a_is e = refl
      not_then false b c a_is e = absurd (cc a_is)

-- what may stand at a port may stand after all ports
pub stands_ports : (q : Progress) (port commands : ℕ) (w : What) → MayStandAt (at_port port commands) w → MayStandAt (after_ports q) w
stands_ports q port commands w may =
    chosen (λ f. MayStandAt f w) (not (goes_on q)) over (if some_runs q then asking else stepping) (λ ended. tt)
    (λ going. chosen (λ f. MayStandAt f w) (some_runs q) asking stepping (λ runs. may.0) (λ none. tt))

-- what may stand at a port may stand after its command
pub stands_after : (q : Progress) (port before after : ℕ) (w : What) → MayStandAt (at_port port before) w → MayStandAt (after_command q port after) w
stands_after q port before after w may =
    chosen (λ f. MayStandAt f w) (after == most_commands) (after_ports q) (at_port port after) (λ most. stands_ports q port before w may) (λ fewer. may)

pub phase_ports : (q : Progress) → HasRoom q → q.step < q.schedule.budget → IsInPhase q (after_ports q)
phase_ports q room below =
    chosen (IsInPhase q) (not (goes_on q)) over (if some_runs q then asking else stepping) (λ ended. (room, omega arith))
    (λ going. chosen (IsInPhase q) (some_runs q) asking stepping (λ runs. (room, below)) (λ none. (room, below)))

pub phase_after : (q : Progress) (port after : ℕ) → HasRoom q → q.step < q.schedule.budget → IsInPhase q (after_command q port after)
phase_after q port after room below = chosen (IsInPhase q) (after == most_commands) (after_ports q) (at_port port after) (λ most. phase_ports q room below) (λ fewer. (room, below))

some_same : {a b : ℕ} → Some a ≡ Some b → a ≡ b
some_same e = cc e

-- a command is entered at its port
pub command_keeps : (p : Progress) (port commands : ℕ) (now events ticks : ℕ) (w : What) (is_taken : Bool) → KeepsRules p (at_port port commands) → p.ending ≡ None
    → is_end w ≡ false → is_sample w ≡ false → port_of w ≡ Some port → HasSession (running_now p) w → IsWithinLimits p.schedule p.schedule.entries p.step w
    → let q = record (with_entry p (entry_now p now w)) { events = events; ticks = ticks } in KeepsRules q (unless_ended q is_taken (after_command q port (suc commands)))
command_keeps p port commands now events ticks w is_taken keeps none no_end no_sample own session limit =
    let q = record (with_entry p (entry_now p now w)) { events = events; ticks = ticks } in
    let entry = entry_now p now w in
    let well_now = keeps.going none in
    let room = well_now.phase_is.0 in
    let below = well_now.phase_is.1 in
    let later = time_later p now well_now.time in
    let long : length q.schedule.entries ≡ length p.schedule.entries + 1 = length-append p.schedule.entries (entry ∷ []) in
    let here : AllByRecursion (λ e. e.step ≡ p.step → MayStandAt (after_command q port (suc commands)) e.what) q.schedule.entries =
    all_pushed (λ e. e.step ≡ p.step → MayStandAt (after_command q port (suc commands)) e.what) p.schedule.entries entry
    (all_mapped (λ e. e.step ≡ p.step → MayStandAt (at_port port commands) e.what) (λ e. e.step ≡ p.step → MayStandAt (after_command q port (suc commands)) e.what) p.schedule.entries
    (λ e may same. stands_after q port commands (suc commands) e.what (may same)) well_now.here)
    (λ same. stands_after q port commands (suc commands) w (no_sample, (λ k is. let equal : port ≡ k = some_same (sym own ∙ is) in omega arith))) in
    record {
      rules =
          rules_more p (at_port port commands) keeps none entry
          (in_order p (at_port port commands) keeps none entry refl later
          (λ e same may is. absurd (cc (may.0, is)))
          (λ e same may earlier later one other. let le = may.1 earlier one in let equal : port ≡ later = some_same (sym own ∙ other) in omega arith))
          session limit;
      going = λ going.
          unless_well q is_taken (after_command q port (suc commands)) (last_is p.schedule.entries entry p.step refl) below
          (entered_each p (at_port port commands) keeps none entry no_end refl later) here (time_within p now w)
          (λ free. phase_after q port (suc commands) (not_filled q free (omega arith)) below) (goes_is q going);
      ended = λ ended. absurd (ended none);
    }

-- a sample is entered
pub sample_keeps : (p : Progress) (now ticks : ℕ) (w : What) → KeepsRules p sampling → p.ending ≡ None
    → is_end w ≡ false → port_of w ≡ None → HasSession (running_now p) w → IsWithinLimits p.schedule p.schedule.entries p.step w
    → let q = record (with_entry p (entry_now p now w)) { ticks = ticks; is_sampled = true } in KeepsRules q (unless_ended q true stepping)
sample_keeps p now ticks w keeps none no_end no_port session limit =
    let q = record (with_entry p (entry_now p now w)) { ticks = ticks; is_sampled = true } in
    let entry = entry_now p now w in
    let well_now = keeps.going none in
    let room = well_now.phase_is.0 in
    let below = well_now.phase_is.1 in
    let later = time_later p now well_now.time in
    let long : length q.schedule.entries ≡ length p.schedule.entries + 1 = length-append p.schedule.entries (entry ∷ []) in
    record {
      rules =
          rules_more p sampling keeps none entry
          (in_order p sampling keeps none entry refl later (λ e same may is. absurd (cc (may, is))) (λ e same may earlier later one other. absurd (cc (no_port, other))))
          session limit;
      going = λ going.
          unless_well q true stepping (last_is p.schedule.entries entry p.step refl) below
          (entered_each p sampling keeps none entry no_end refl later) (all_of (λ e. e.step ≡ p.step → Unit {0}) q.schedule.entries (λ e same. tt)) (time_within p now w)
          (λ free. (not_filled q free (omega arith), below)) (goes_is q going);
      ended = λ ended. absurd (ended none);
    }
