-- Where a turn on a schedule is, and what is left of the schedule by then.
use Rattle.std.proofs.Common.{◌≡◌, ℕ, suc, ◌<◌, ◌≤◌, List, [], ◌∷◌, ◌++◌, refl, ap, sym, subst, ◌∙◌, arith}
use Rattle.std.proofs.lemmas.List.{append_assoc}
use Rattle.std.specs.Prelude.{Bool, true, false, not, ◌==◌, ◌&&◌, ◌||◌, Option, Some, None, IfSome, is_none, if◌then◌else◌}
use Rattle.guest_program.specs.declared.instr.Func.{Func}
use Rattle.run_schedule.specs.Schedule.{IsAtLastStep, has_end, is_end}
use Rattle.run_schedule.specs.ScheduleParts.{ScheduleParts, port_of}
use Rattle.run_schedule.specs.declared.limits.TheConstants.{MAX_ENTRIES, MAX_PORT}
use Rattle.run_schedule.specs.declared.schedule.EndCause.{EndCause}
use Rattle.run_schedule.specs.declared.schedule.ScheduleEntry.{ScheduleEntry}
use Rattle.isolate.specs.Fits.{IsGoing}
use Rattle.isolate_acts.proofs.SchedulePhases.{chosen}
use Rattle.isolate_acts.specs.Phases.{Phase, at_port, asking, sampling, stepping, closing, must_end, over, after_command, after_ports, most_commands, unless_ended}
use Rattle.isolate_acts.specs.Progress.{Moment, Progress, entry_count, goes_on, is_filled, some_runs}
use Rattle.schedule_ports.specs.ScheduleCalls.{command_at, is_asked_at, is_dropped_at, next_of}
use Rattle.schedule_ports.specs.ScheduleTurns.{IsAhead, IsScheduleEnd, MayReplay, with_left}
use Rattle.schedule_ports.proofs.Calls.{none_given, same_number}
use Rattle.schedule_ports.proofs.Next.{NoCommand, idle, past_here, port_exists}

-- the entry that comes next at this step is for no command of an earlier port
abbrev pub NoEarlier : ℕ → ℕ → List ScheduleEntry → Type 0
NoEarlier port step [] = Unit {0}
NoEarlier port step (e ∷ left) = e.step ≡ step → (from : ℕ) → port_of e.what ≡ Some from → port ≤ from

-- What is left in a phase of a turn, while the isolate goes on, where the ring refuses samples or not.
abbrev pub Remains : Bool → List ScheduleEntry → Progress → Phase → Type 0
Remains refuses left p (at_port port commands) = (is_filled p ≡ false) × (commands ≤ entry_count p) × NoEarlier port p.step left × (refuses ≡ is_dropped_at p.step left)
Remains refuses left p asking = (is_filled p ≡ false) × NoCommand p.step left × (refuses ≡ is_dropped_at p.step left)
Remains refuses left p sampling = (is_filled p ≡ false) × (is_asked_at p.step (next_of left) ≡ true) × (refuses ≡ is_dropped_at p.step left)
Remains refuses left p stepping = (is_filled p ≡ false) × IsAhead (suc p.step) left
Remains refuses left p closing = (is_filled p ≡ false) × (p.is_sampled ≡ false)
Remains refuses left p (must_end later) = (is_filled p ≡ true) × IsAtLastStep p.schedule.entries p.step
Remains refuses left p over = ⊥

-- What holds in all of them: the entries so far and those that are left are the schedule, the end is left, and none of an earlier step.
pub record GoesOn (schedule : ScheduleParts) (left : List ScheduleEntry) (p : Progress) : Type 0 where
  pub whole : with_left p.schedule left ≡ schedule
  pub ended : has_end left ≡ true
  pub ahead : IsAhead p.step left

-- An isolate in a phase of a turn: it goes on on the schedule, or has ended on it.
pub record IsAt (schedule : ScheduleParts) (refuses : Bool) (left : List ScheduleEntry) (moment : Moment) (p : Progress) (phase : Phase) : Type 0 where
  pub going : p.ending ≡ None → GoesOn schedule left p × Remains refuses left p phase
  pub below : p.ending ≡ None → ¬ (phase ≡ closing) → p.step < p.schedule.budget
  pub ended : ¬ (p.ending ≡ None) → IsScheduleEnd schedule moment p

goes : (p : Progress) → p.ending ≡ None → goes_on p ≡ true
goes p going = ap (λ (e : Option EndCause). is_none e) going

-- the schedule can be followed from here
pub from_here : (funcs : List Func) (schedule : ScheduleParts) (left : List ScheduleEntry) (p : Progress) → MayReplay funcs schedule → with_left p.schedule left ≡ schedule → MayReplay funcs (with_left p.schedule left)
from_here funcs schedule left p may whole = subst (MayReplay funcs) (sym whole) may

-- the entry that came next was entered
pub entered : (schedule : ScheduleParts) (e entry : ScheduleEntry) (rest : List ScheduleEntry) (p q : Progress) → q.schedule ≡ record p.schedule { entries = p.schedule.entries ++ entry ∷ [] } → entry ≡ e
    → with_left p.schedule (e ∷ rest) ≡ schedule → with_left q.schedule rest ≡ schedule
entered schedule e entry rest p q made same whole =
    ap (λ (s : ScheduleParts). with_left s rest) made
    ∙ (λ i. record p.schedule { entries = append_assoc p.schedule.entries (entry ∷ []) rest i })
    ∙ (λ i. record p.schedule { entries = p.schedule.entries ++ same i ∷ rest })
    ∙ whole

-- the end is still left after another entry
pub end_left : (e : ScheduleEntry) (rest : List ScheduleEntry) → is_end e.what ≡ false → has_end (e ∷ rest) ≡ true → has_end rest ≡ true
end_left e rest other ended = of_both (is_end e.what) (has_end rest) other ended where
  of_both : (a b : Bool) → a ≡ false → (a || b) ≡ true → b ≡ true
  of_both true b other both = absurd (cc other)
  of_both false b other both = both

-- a port gave no command: the next entry of this step is for none of a port up to it
pub passed : (left : List ScheduleEntry) (port step : ℕ) → None ≡ command_at port step (next_of left) → NoEarlier port step left → NoEarlier (suc port) step left
passed [] port step none before = tt
passed (e ∷ rest) port step none before =
    λ at from own. not_same port from (before at from own) (none_given e port step from none at own) where
      not_same : (a b : ℕ) → a ≤ b → (b ≡ a → ⊥) → suc a ≤ b
      not_same a b within other = grind (arith, within, other)

-- after the last port it is for no command
pub none_left : (funcs : List Func) (p : Progress) (left : List ScheduleEntry) (port : ℕ) → MayReplay funcs (with_left p.schedule left) → port ≡ MAX_PORT → NoEarlier (suc port) p.step left → NoCommand p.step left
none_left funcs p [] port may last before = tt
none_left funcs p (e ∷ rest) port may last before = λ at. by_port (port_of e.what) (port_exists funcs p e rest may) (before at) where
  by_port : (o : Option ℕ) → IfSome o (λ q. q ≤ MAX_PORT) → ((from : ℕ) → o ≡ Some from → suc port ≤ from) → o ≡ None
  by_port None exists before = refl
  by_port (Some from) exists before = let past = before from refl in absurd (omega (arith, past, exists, last))

module _ (funcs : List Func) (refuses : Bool) (left : List ScheduleEntry) (p : Progress) (may : MayReplay funcs (with_left p.schedule left)) (ahead : IsAhead p.step left) (machine : IsGoing funcs p.step) where
  -- the phase after the ports
  pub after_ports_on : p.ending ≡ None → is_filled p ≡ false → p.step < p.schedule.budget → NoCommand p.step left → refuses ≡ is_dropped_at p.step left → Remains refuses left p (after_ports p)
  after_ports_on going room below none refuses_is =
      subst (λ (b : Bool). Remains refuses left p (if not b then over else if some_runs p then asking else stepping)) (sym (goes p going))
      (chosen (Remains refuses left p) (some_runs p) asking stepping (λ runs. (room, none, refuses_is))
      (λ none_runs. (room, past_here funcs p left may ahead none (idle funcs p left may none_runs) machine room below)))

-- that after a command, of which a turn takes more than the schedule has entries
pub after_command_on : (refuses : Bool) (left : List ScheduleEntry) (p : Progress) (port commands : ℕ) → is_filled p ≡ false → commands ≤ entry_count p → entry_count p < p.schedule.limit → p.schedule.limit ≤ MAX_ENTRIES
    → NoEarlier port p.step left → refuses ≡ is_dropped_at p.step left → Remains refuses left p (after_command p port commands)
after_command_on refuses left p port commands room few place most before refuses_is =
    chosen (Remains refuses left p) (commands == most_commands) (after_ports p) (at_port port commands)
    (λ all. let limit : p.schedule.limit ≤ 1048576 = most in let count : commands ≡ 1048576 = same_number commands most_commands all in absurd (omega (arith, few, place, limit, count)))
    (λ fewer. (room, few, before, refuses_is))

-- that after an entry, whose answer was taken: the end must come where one place is left
pub unless_full : (refuses : Bool) (left : List ScheduleEntry) (p : Progress) (phase : Phase) → p.ending ≡ None → IsAtLastStep p.schedule.entries p.step
    → (is_filled p ≡ false → Remains refuses left p phase) → Remains refuses left p (unless_ended p true phase)
unless_full refuses left p phase going last free =
    subst (λ (b : Bool). Remains refuses left p (if b && (is_filled p || not true) then must_end phase else phase)) (sym (goes p going))
    (by_room (is_filled p) refl) where
      by_room : (filled : Bool) → is_filled p ≡ filled → Remains refuses left p (if true && (filled || not true) then must_end phase else phase)
      by_room true is = (is, last)
      by_room false is = free is
