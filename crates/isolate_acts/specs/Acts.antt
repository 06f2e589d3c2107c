-- The acts of which a turn of an isolate is made: what each enters, raises, asks and tells.
use Rattle.std.specs.Prelude.{ℕ, suc, ◌+◌, ◌&&◌, List, [], ◌∷◌, ◌++◌, map, length, Bool, true, false, Some, None, if◌then◌else◌}
use Rattle.prof_base.specs.declared.ids.SessionId.{SessionId}
use Rattle.code_event.specs.declared.event.Answer.{Answer}
use Rattle.code_event.specs.declared.event.Answer.TheVariants as answer
use Rattle.code_event.specs.declared.event.CodeEvent.{CodeEvent}
use Rattle.code_event.specs.declared.event.CodeEvent.TheVariants as event
use Rattle.code_event.specs.declared.event.Command.{Command}
use Rattle.code_event.specs.declared.event.Command.TheVariants as command
use Rattle.code_event.specs.declared.event.EventRecord.{EventRecord}
use Rattle.code_event.specs.declared.event.Options.{Options}
use Rattle.code_event.specs.declared.tick.Item.{Item}
use Rattle.code_event.specs.declared.tick.Item.TheVariants as item
use Rattle.code_event.specs.declared.tick.Tick.{Tick}
use Rattle.plain_machine.specs.PlainMachine.{deopts}
use Rattle.run_schedule.specs.declared.schedule.EndCause.{EndCause}
use Rattle.run_schedule.specs.declared.schedule.EndCause.TheVariants as cause
use Rattle.run_schedule.specs.declared.schedule.What.TheVariants as what
use Rattle.isolate.specs.PlainFile.{leaves_files}
use Rattle.isolate.specs.RunLaws.{last_time}
use Rattle.isolate_acts.specs.Calls.{Call, commanded, answered, asked, read, told}
use Rattle.isolate_acts.specs.Progress.{Moment, Progress, entry_count, some_runs, source_now, next_session, entry_time, entry_now, with_entry}
use Rattle.isolate_acts.specs.Sampling.{after_sample, raised_by_sample}

-- What a turn does, with what it got back. A port gives no command. A session is started or stopped, or a command is refused, and the port takes the answer or is out of memory. A command finds no memory: it is not entered, and the isolate ends; a start may have raised its mark by then. A sample is asked for or not. A sample is taken. The guest does a step: it is at another moment, and has given events. The isolate ends. The guest's step finds no memory after it has raised these events, and the isolate ends.
pub data Act : Type 0 where
  passes : (port : ℕ) → Act
  starts : (options : Options) → (now : ℕ) → (is_taken : Bool) → Act
  stops : (port : ℕ) → (number : SessionId) → (now : ℕ) → (is_taken : Bool) → Act
  refuses : (port : ℕ) → Command → Answer → (is_taken : Bool) → Act
  cuts_off : (port : ℕ) → Command → (is_marked : Bool) → (now : ℕ) → (is_taken : Bool) → Act
  asks : Bool → Act
  samples : (now : ℕ) → (is_in : Bool) → Act
  steps : Moment → List CodeEvent → Act
  ends : EndCause → (now : ℕ) → Act
  ends_short : List CodeEvent → (now : ℕ) → Act

-- an event with the stamps of now
abbrev pub event_of : Progress → CodeEvent → EventRecord
event_of p e = record { number = suc p.events; ticks_before = p.ticks; event = e }

-- events with their stamps, after this many events and this many ticks
abbrev pub numbered : ℕ → ℕ → List CodeEvent → List Item
numbered number ticks [] = []
numbered number ticks (e ∷ events) = item.Event (record { number = suc number; ticks_before = ticks; event = e }) ∷ numbered (suc number) ticks events

-- the mark of a start
abbrev pub start_mark : Progress → Options → ℕ → CodeEvent
start_mark p options now = event.Start (next_session p) options (entry_time p now)

-- the tick of a start, for its session alone
abbrev pub start_tick : Moment → Progress → ℕ → Tick
start_tick moment p time =
    record {
      order = suc p.events;
      tick_number = suc p.ticks;
      time = time;
      interval = 0;
      state = moment.state;
      hit = false;
      only = Some (next_session p);
      frames = moment.stack;
    }

-- the guest's next step makes a deoptimisation while a session runs
abbrev pub is_seen_giving_up : Moment → Progress → Bool
is_seen_giving_up moment p = deopts moment.funcs moment.steps && some_runs p

-- the tick of a deoptimisation, for all sessions, with the time of the last entry and the frames after the step, which has raised this many events
abbrev pub given_up_tick : Moment → Progress → ℕ → Tick
given_up_tick after p events =
    record {
      order = p.events + events;
      tick_number = suc p.ticks;
      time = last_time p.schedule.entries;
      interval = 0;
      state = after.state;
      hit = false;
      only = None;
      frames = after.stack;
    }

-- the tick of a step that makes a deoptimisation while a session runs, and none of another step
abbrev pub given_up_ticks : Moment → Moment → Progress → ℕ → List Tick
given_up_ticks before after p events = if is_seen_giving_up before p then given_up_tick after p events ∷ [] else []

-- what a command had raised when there was no memory: the mark of a start, or nothing
abbrev pub cut_marks : Progress → Command → Bool → ℕ → List CodeEvent
cut_marks p (command.Start options) true now = start_mark p options now ∷ []
cut_marks p given is_marked now = []

-- the end out of memory, after these events of a turn that was cut short
abbrev pub after_short : Progress → List CodeEvent → ℕ → Progress
after_short p events now = record (with_entry p (entry_now p now (what.End cause.Memory))) { events = suc (p.events + length events); ending = Some cause.Memory }

-- these events, and the finish without files
abbrev pub raised_short : Progress → List CodeEvent → ℕ → List Item
raised_short p events now = numbered p.events p.ticks (events ++ event.Finish (entry_time p now) false ∷ [])

-- how far the isolate is after an act
abbrev pub act_after : Moment → Progress → Act → Progress
act_after moment p (starts options now is_taken) = record (with_entry p (entry_now p now (what.Start options))) { events = suc p.events; ticks = suc p.ticks }
act_after moment p (stops port number now is_taken) = record (with_entry p (entry_now p now (what.Stop port number))) { events = suc p.events }
act_after moment p (cuts_off port given is_marked now is_taken) = after_short p (cut_marks p given is_marked now) now
act_after moment p (samples now is_in) = after_sample p now is_in
act_after moment p (steps after events) =
    record p { step = suc p.step; events = p.events + length events; ticks = p.ticks + length (given_up_ticks moment after p (length events)); is_sampled = false }
act_after moment p (ends why now) = record (with_entry p (entry_now p now (what.End why))) { events = suc p.events; ending = Some why }
act_after moment p (ends_short events now) = after_short p events now
act_after moment p other = p

-- the moment of the guest after an act
abbrev pub moment_after : Moment → Act → Moment
moment_after moment (steps after events) = after
moment_after moment other = moment

-- what an act raises
abbrev pub act_raises : Moment → Progress → Act → List Item
act_raises moment p (starts options now is_taken) = item.Event (event_of p (start_mark p options now)) ∷ item.Tick (start_tick moment p (entry_time p now)) ∷ []
act_raises moment p (stops port number now is_taken) = item.Event (event_of p (event.Stop number (entry_time p now))) ∷ []
act_raises moment p (cuts_off port given is_marked now is_taken) = raised_short p (cut_marks p given is_marked now) now
act_raises moment p (samples now is_in) = raised_by_sample moment p now is_in
act_raises moment p (steps after events) = numbered p.events p.ticks events ++ map (λ t. item.Tick t) (given_up_ticks moment after p (length events))
act_raises moment p (ends why now) = item.Event (event_of p (event.Finish (entry_time p now) (leaves_files why))) ∷ []
act_raises moment p (ends_short events now) = raised_short p events now
act_raises moment p other = []

-- the calls of an act at the ports
abbrev pub act_calls : Moment → Progress → Act → List Call
act_calls moment p (passes port) = commanded port p.step None ∷ []
act_calls moment p (starts options now is_taken) =
    let after = act_after moment p (starts options now is_taken) in
    commanded options.port p.step (Some (command.Start options)) ∷ read p.step now ∷ told (source_now after) ∷ answered options.port (answer.Started (next_session p)) (entry_count after) is_taken ∷ []
act_calls moment p (stops port number now is_taken) =
    let after = act_after moment p (stops port number now is_taken) in
    commanded port p.step (Some (command.Stop number)) ∷ read p.step now ∷ told (source_now after) ∷ answered port answer.Stopped (entry_count after) is_taken ∷ []
act_calls moment p (refuses port given answer is_taken) = commanded port p.step (Some given) ∷ answered port answer (entry_count p) is_taken ∷ []
act_calls moment p (cuts_off port given is_marked now is_taken) =
    commanded port p.step (Some given) ∷ read p.step now ∷ told 0 ∷ answered port answer.Ended (suc (entry_count p)) is_taken ∷ []
act_calls moment p (asks is_asked) = asked p.step is_asked ∷ []
act_calls moment p (samples now is_in) = read p.step now ∷ []
act_calls moment p (steps after events) = []
act_calls moment p (ends why now) = read p.step now ∷ told 0 ∷ []
act_calls moment p (ends_short events now) = read p.step now ∷ told 0 ∷ []

-- how far the isolate is after a run of acts
abbrev pub progress_on : Moment → Progress → List Act → Progress
progress_on moment p [] = p
progress_on moment p (act ∷ acts) = progress_on (moment_after moment act) (act_after moment p act) acts

-- the moment of the guest after a run of acts
abbrev pub moment_on : Moment → List Act → Moment
moment_on moment [] = moment
moment_on moment (act ∷ acts) = moment_on (moment_after moment act) acts

-- what a run of acts raises
abbrev pub raised_on : Moment → Progress → List Act → List Item
raised_on moment p [] = []
raised_on moment p (act ∷ acts) = act_raises moment p act ++ raised_on (moment_after moment act) (act_after moment p act) acts

-- the calls of a run of acts at the ports
abbrev pub calls_on : Moment → Progress → List Act → List Call
calls_on moment p [] = []
calls_on moment p (act ∷ acts) = act_calls moment p act ++ calls_on (moment_after moment act) (act_after moment p act) acts
