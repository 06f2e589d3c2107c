-- Which acts may come where in a turn of an isolate.
use Rattle.std.specs.Prelude.{◌≡◌, ℕ, suc, ◌<◌, ◌≤◌, ◌==◌, ◌&&◌, ◌||◌, not, List, [], ◌∷◌, length, Bool, true, false, Some, None, if◌then◌else◌}
use Rattle.std.specs.List.{AllByRecursion}
use Rattle.code_event.specs.CodeMap.{after_events}
use Rattle.code_event.specs.DeoptReasons.{reasons_after}
use Rattle.code_event.specs.declared.entry.Entry.{Entry}
use Rattle.code_event.specs.declared.event.Answer.{Answer}
use Rattle.code_event.specs.declared.event.Answer.TheVariants as answer
use Rattle.code_event.specs.declared.event.CodeEvent.{CodeEvent}
use Rattle.code_event.specs.declared.event.Command.{Command}
use Rattle.code_event.specs.declared.event.Command.TheVariants as command
use Rattle.code_event.specs.declared.event.TheConstants.{MAX_SESSIONS}
use Rattle.plain_machine.specs.PlainMachine.{plain}
use Rattle.plain_machine.specs.PlainFrames.{reasons_of}
use Rattle.plain_machine.specs.declared.ended.Ended.TheVariants as guest_end
use Rattle.run_schedule.specs.Schedule.{HasSession}
use Rattle.run_schedule.specs.declared.limits.TheConstants.{MAX_PORT}
use Rattle.run_schedule.specs.declared.schedule.EndCause.{EndCause}
use Rattle.run_schedule.specs.declared.schedule.EndCause.TheVariants as cause
use Rattle.run_schedule.specs.declared.schedule.What.TheVariants as what
use Rattle.raised_so_far.specs.ItemsSoFar.{IsCodeEvent}
use Rattle.isolate_acts.specs.Acts.{Act, passes, starts, stops, refuses, cuts_off, asks, samples, steps, ends, ends_short, act_after, moment_after}
use Rattle.isolate_acts.specs.Progress.{Moment, Progress, entry_count, goes_on, is_filled, running_now, some_runs}
use Rattle.isolate_acts.specs.Sampling.{after_sample}
use Rattle.isolate_acts.specs.Stands.{IsMoment}

-- Where a turn is: at a port, after this many commands of all ports; before a sample is asked for; before the sample; before the guest's step; after it; where an end must come before anything else; and where nothing more may come.
pub data Phase : Type 0 where
  at_port : (port : ℕ) → (commands : ℕ) → Phase
  asking : Phase
  sampling : Phase
  stepping : Phase
  closing : Phase
  must_end : (later : Phase) → Phase
  over : Phase

-- the number of commands that a turn takes at most, of all ports together
abbrev pub most_commands : ℕ
most_commands = 1048576

-- A turn begins with the ports. Where a sample was entered at this step it begins with the guest's step, or with the end where one place is left.
abbrev pub first_phase : Progress → Phase
first_phase p = if goes_on p && p.is_sampled then (if is_filled p then must_end over else stepping) else at_port 0 0

-- after the ports a sample is asked for where a session runs, else the guest does its step; after the end neither comes
abbrev pub after_ports : Progress → Phase
after_ports p = if not (goes_on p) then over else if some_runs p then asking else stepping

-- after a command the port is asked for the next, unless a turn takes no more
abbrev pub after_command : Progress → ℕ → ℕ → Phase
after_command p port commands = if commands == most_commands then after_ports p else at_port port commands

-- after the end the commands that are left are taken, and nothing else comes
abbrev pub after_end : Phase → Phase
after_end (at_port port commands) = at_port port commands
after_end other = over

-- where a turn may be after the end: at a port, or where nothing more may come
abbrev pub IsAfterEnd : Phase → Type 0
IsAfterEnd (at_port port commands) = Unit {0}
IsAfterEnd over = Unit {0}
IsAfterEnd other = ⊥

-- an end must come where one place is left, or where a port was out of memory for its answer
abbrev pub unless_ended : Progress → Bool → Phase → Phase
unless_ended p is_taken phase = if goes_on p && (is_filled p || not is_taken) then must_end phase else phase

-- a command of this port is taken from that port, one that exists, and a turn takes more
pub record MayTake (from port commands : ℕ) : Type 0 where
  pub port_is : from ≡ port
  pub exists : port ≤ MAX_PORT
  pub more : commands < most_commands

-- there is room for an entry and for the end
abbrev pub HasRoom : Progress → Type 0
HasRoom p = suc (entry_count p) < p.schedule.limit

-- a command of this port is legal: fewer than 100 sessions run before a start, and a stop is of a session that runs and that the port has started
abbrev pub IsLegalCommand : Progress → ℕ → Command → Type 0
IsLegalCommand p port (command.Start options) = (options.port ≡ port) × (length (running_now p) < MAX_SESSIONS)
IsLegalCommand p port (command.Stop number) = HasSession (running_now p) (what.Stop port number)

-- a command of this port is refused with this answer: after the end each is; before it a start while 100 sessions run, and a stop of a session that does not run or that another port has started
abbrev pub IsRefused : Progress → ℕ → Command → Answer → Type 0
IsRefused p port given answer.Ended = ¬ (p.ending ≡ None)
IsRefused p port (command.Start options) answer.TooMany = (p.ending ≡ None) × (options.port ≡ port) × (MAX_SESSIONS ≤ length (running_now p))
IsRefused p port (command.Stop number) answer.NoSession = (p.ending ≡ None) × ¬ HasSession (running_now p) (what.Stop port number)
IsRefused p port given other = ⊥

-- an end for this cause is due after a step: the guest has ended so, or it has not and the steps are the budget
abbrev pub IsDue : Moment → Progress → EndCause → Type 0
IsDue moment p cause.Halt = (plain moment.funcs moment.steps).ended ≡ Some guest_end.Halt
IsDue moment p cause.Overflow = (plain moment.funcs moment.steps).ended ≡ Some guest_end.Overflow
IsDue moment p cause.OffEnd = (plain moment.funcs moment.steps).ended ≡ Some guest_end.OffEnd
IsDue moment p cause.Budget = ((plain moment.funcs moment.steps).ended ≡ None) × (p.step ≡ p.schedule.budget)
IsDue moment p other = ⊥

-- no end is due after a step
pub record NoneIsDue (moment : Moment) (p : Progress) : Type 0 where
  pub going : (plain moment.funcs moment.steps).ended ≡ None
  pub budget : p.step < p.schedule.budget

-- A step of the guest, which has not ended. It gives events of its code: its ranges and its reasons follow by them.
pub record IsStep (moment after : Moment) (events : List CodeEvent) : Type 0 where
  pub going : (plain moment.funcs moment.steps).ended ≡ None
  pub funcs : after.funcs ≡ moment.funcs
  pub steps : after.steps ≡ suc moment.steps
  pub code : after.code ≡ after_events moment.code events
  pub of_code : AllByRecursion IsCodeEvent events
  pub reasons :
      (entry : Entry)
      → reasons_after moment.code (reasons_of moment.funcs (plain moment.funcs moment.steps)) events entry ≡ reasons_of moment.funcs (plain moment.funcs (suc moment.steps)) entry
  pub shows : IsMoment after

-- An end may come: none has come, and there is a place for it.
pub record MayEnd (p : Progress) : Type 0 where
  pub going : p.ending ≡ None
  pub place : entry_count p < p.schedule.limit

-- An act may come in a phase, and this phase comes next.
abbrev pub MayAct : Moment → Progress → Phase → Act → Phase → Type 0
MayAct moment p (at_port port commands) (passes from) next = (from ≡ port) × (next ≡ (if port == MAX_PORT then after_ports p else at_port (suc port) commands))
MayAct moment p (at_port port commands) (starts options now is_taken) next =
    let after = act_after moment p (starts options now is_taken) in
    MayTake options.port port commands × (p.ending ≡ None) × (length (running_now p) < MAX_SESSIONS) × HasRoom p × (next ≡ unless_ended after is_taken (after_command after port (suc commands)))
MayAct moment p (at_port port commands) (stops from number now is_taken) next =
    let after = act_after moment p (stops from number now is_taken) in
    MayTake from port commands × (p.ending ≡ None) × HasSession (running_now p) (what.Stop from number) × HasRoom p × (next ≡ unless_ended after is_taken (after_command after port (suc commands)))
MayAct moment p (at_port port commands) (refuses from given answer is_taken) next =
    MayTake from port commands × IsRefused p port given answer × (next ≡ unless_ended p is_taken (after_command p port (suc commands)))
MayAct moment p (at_port port commands) (cuts_off from given is_marked now is_taken) next =
    let after = act_after moment p (cuts_off from given is_marked now is_taken) in
    MayTake from port commands × (p.ending ≡ None) × IsLegalCommand p port given × HasRoom p × (next ≡ after_command after port (suc commands))
MayAct moment p asking (asks is_asked) next = (p.ending ≡ None) × (some_runs p ≡ true) × (p.is_sampled ≡ false) × (next ≡ (if is_asked then sampling else stepping))
MayAct moment p sampling (samples now is_in) next = (p.ending ≡ None) × HasRoom p × (next ≡ unless_ended (after_sample p now is_in) true stepping)
MayAct moment p stepping (steps after events) next = (p.ending ≡ None) × IsStep moment after events × (p.step < p.schedule.budget) × (next ≡ closing)
MayAct moment p stepping (ends_short events now) next = MayEnd p × AllByRecursion IsCodeEvent events × (next ≡ over)
MayAct moment p closing (ends why now) next = MayEnd p × IsDue moment p why × (next ≡ over)
MayAct moment p (must_end later) (ends why now) next = MayEnd p × (why ≡ (if is_filled p then cause.Full else cause.Memory)) × (next ≡ after_end later)
MayAct moment p phase act next = ⊥

-- the acts may come one after another, from the first phase to the last
abbrev pub LeadTo : Moment → Progress → Phase → List Act → Phase → Type 0
LeadTo moment p phase [] last = last ≡ phase
LeadTo moment p phase (act ∷ acts) last = (next : Phase) × MayAct moment p phase act next × LeadTo (moment_after moment act) (act_after moment p act) next acts last

-- A turn is over here: after the end, or after a step where no end is due.
abbrev pub IsOver : Moment → Progress → Phase → Type 0
IsOver moment p over = ¬ (p.ending ≡ None)
IsOver moment p closing = NoneIsDue moment p × (is_filled p ≡ false)
IsOver moment p other = ⊥
