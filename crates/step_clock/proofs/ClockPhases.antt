-- Where a turn on the step clock is, and what was entered by then.
use Rattle.std.proofs.Common.{◌≡◌, ℕ, suc, ◌<◌, ◌≤◌, [], refl, ap, sym, subst}
use Rattle.std.specs.Prelude.{Bool, true, false, not, ◌==◌, ◌&&◌, ◌||◌, Option, Some, None, is_none, if◌then◌else◌}
use Rattle.code_event.specs.declared.event.Command.{Command}
use Rattle.code_event.specs.declared.event.Command.TheVariants as command
use Rattle.code_event.specs.declared.event.Options.{Options}
use Rattle.run_schedule.specs.declared.schedule.EndCause.{EndCause}
use Rattle.isolate.specs.RunLaws.{last_time}
use Rattle.isolate_acts.proofs.SchedulePhases.{chosen}
use Rattle.isolate_acts.specs.Acts.{Act, samples}
use Rattle.isolate_acts.specs.Phases.{Phase, at_port, asking, sampling, stepping, closing, must_end, over, after_command, after_ports, most_commands, unless_ended}
use Rattle.isolate_acts.specs.Progress.{Moment, Progress, goes_on, is_filled, some_runs}
use Rattle.step_clock.specs.ClockTurns.{IsClockEnd}
use Rattle.step_clock.specs.StepClock.{entries_before, is_asked, last_step}
use Rattle.step_clock.proofs.ClockEntries.{runs_on}

-- What was entered in a phase of a turn, while the isolate goes on, where the recording has begun or not.
abbrev pub Entered : Options → Phase → Bool → Progress → Type 0
Entered r (at_port port commands) begun p =
    (p.is_sampled ≡ false) × (is_filled p ≡ false) × (begun ≡ false → (port ≡ 0) × (p.step ≡ 0)) × (p.schedule.entries ≡ (if begun then entries_before r p.step else []))
Entered r asking begun p = (begun ≡ true) × (is_filled p ≡ false) × (p.schedule.entries ≡ entries_before r p.step)
Entered r sampling begun p = (begun ≡ true) × (is_filled p ≡ false) × (p.schedule.entries ≡ entries_before r p.step) × (is_asked r.interval p.step ≡ true)
Entered r stepping begun p = (begun ≡ true) × (is_filled p ≡ false) × (p.schedule.entries ≡ entries_before r (suc p.step))
Entered r closing begun p = (begun ≡ true) × (is_filled p ≡ false) × (p.is_sampled ≡ false) × (p.schedule.entries ≡ entries_before r p.step)
Entered r (must_end later) begun p = (is_filled p ≡ true) × (p.schedule.entries ≡ entries_before r (suc p.step)) × (last_step p.schedule.entries ≡ p.step) × (last_time p.schedule.entries ≤ p.step)
Entered r over begun p = ⊥

-- An isolate in a phase of a turn: it goes on on the clock, or has ended on it.
pub record IsAt (r : Options) (begun : Bool) (moment : Moment) (p : Progress) (phase : Phase) : Type 0 where
  pub going : p.ending ≡ None → Entered r phase begun p
  pub below : p.ending ≡ None → ¬ (phase ≡ closing) → p.step < p.schedule.budget
  pub ended : ¬ (p.ending ≡ None) → IsClockEnd r.interval moment p

-- the recording is begun by the first command that port 0 is asked for, and no other command is given
pub record IsGiven (begun is_first : Bool) (given : Command) (r : Options) : Type 0 where
  pub not_yet : begun ≡ false
  pub port : is_first ≡ true
  pub start : given ≡ command.Start r

pub given_is : (begun is_first : Bool) (given : Command) (r : Options) → Some given ≡ (if is_first && not begun then Some (command.Start r) else None) → IsGiven begun is_first given r
given_is true true given r same = absurd (cc same)
given_is true false given r same = absurd (cc same)
given_is false false given r same = absurd (cc same)
given_is false true given r same = record { not_yet = refl; port = refl; start = cc }

pub none_given : (begun : Bool) (port : ℕ) (r : Options) → port ≡ 0 → begun ≡ false → None ≡ (if port == 0 && not begun then Some (command.Start r) else None) → ⊥
none_given begun port r first not_yet same =
    let given : None ≡ Some (command.Start r) =
    subst (λ (n : ℕ). None ≡ (if n == 0 && not false then Some (command.Start r) else None)) first
    (subst (λ (b : Bool). None ≡ (if port == 0 && not b then Some (command.Start r) else None)) not_yet same) in cc

pub same_options : (a b : Options) → command.Start a ≡ command.Start b → a ≡ b
same_options a b same = cc

pub or_true : (a b : Bool) → a ≡ true → (a || b) ≡ true
or_true true b is = refl
or_true false b is = absurd (cc is)

pub on_true : (a b : Bool) → b ≡ true → (a || b) ≡ true
on_true true b is = refl
on_true false b is = is

goes : (p : Progress) → p.ending ≡ None → goes_on p ≡ true
goes p going = ap (λ (e : Option EndCause). is_none e) going

-- while the recording runs, the phase after the ports is that before a sample is asked for
pub after_ports_on : (r : Options) (p : Progress) → p.ending ≡ None → is_filled p ≡ false → p.schedule.entries ≡ entries_before r p.step → Entered r (after_ports p) true p
after_ports_on r p going room entries =
    subst (λ (b : Bool). Entered r (if not b then over else if some_runs p then asking else stepping) true p) (sym (goes p going))
    (subst (λ (b : Bool). Entered r (if b then asking else stepping) true p) (sym (runs_on r p entries)) (refl, room, entries))

-- that after a command
pub after_command_on : (r : Options) (p : Progress) (port commands : ℕ) → p.ending ≡ None → p.is_sampled ≡ false → is_filled p ≡ false → p.schedule.entries ≡ entries_before r p.step
    → Entered r (after_command p port commands) true p
after_command_on r p port commands going fresh room entries =
    chosen (λ (q : Phase). Entered r q true p) (commands == most_commands) (after_ports p) (at_port port commands)
    (λ most. after_ports_on r p going room entries) (λ fewer. (fresh, room, (λ not_yet. absurd (cc not_yet)), entries))

-- that after an entry, whose answer was taken: the end must come where one place is left
pub unless_full : (r : Options) (p : Progress) (phase : Phase) (begun : Bool) → p.ending ≡ None → p.schedule.entries ≡ entries_before r (suc p.step) → last_step p.schedule.entries ≡ p.step → last_time p.schedule.entries ≤ p.step
    → (is_filled p ≡ false → Entered r phase begun p) → Entered r (unless_ended p true phase) begun p
unless_full r p phase begun going entries last time free =
    subst (λ (b : Bool). Entered r (if b && (is_filled p || not true) then must_end phase else phase) begun p) (sym (goes p going))
    (by_room (is_filled p) refl) where
      by_room : (filled : Bool) → is_filled p ≡ filled → Entered r (if true && (filled || not true) then must_end phase else phase) begun p
      by_room true is = (is, entries, last, time)
      by_room false is = free is
