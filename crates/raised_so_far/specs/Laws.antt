-- What a run raises, entry by entry and step by step.
use Rattle.std.specs.Prelude.{◌≡◌, ℕ, suc, ◌<◌, ◌≤◌, List, [], ◌∷◌, ◌++◌, map, length, true, false, Some, None}
use Rattle.std.specs.List.{AllByRecursion}
use Rattle.prof_base.specs.declared.ids.SessionId.{SessionId}
use Rattle.guest_program.specs.declared.instr.Func.{Func}
use Rattle.code_event.specs.CodeMap.{ranges}
use Rattle.code_event.specs.DeoptReasons.{reasons}
use Rattle.code_event.specs.ItemFile.{item_file, session}
use Rattle.code_event.specs.ItemList.{IsStamped, IsLegalItems}
use Rattle.code_event.specs.MomentLaws.{events_of}
use Rattle.code_event.specs.Seen.{ticked, resolved_tick}
use Rattle.code_event.specs.Symbolizer.{tick_frames}
use Rattle.code_event.specs.declared.entry.Entry.{Entry}
use Rattle.code_event.specs.declared.event.TheConstants.{MAX_SESSIONS}
use Rattle.code_event.specs.declared.event.CodeEvent.TheVariants.{Start, Stop, Finish}
use Rattle.code_event.specs.declared.event.EventRecord.{EventRecord}
use Rattle.code_event.specs.declared.event.Options.{Options}
use Rattle.code_event.specs.declared.tick.Item.{Item}
use Rattle.code_event.specs.declared.tick.Item.TheVariants as item
use Rattle.code_event.specs.declared.tick.Tick.{Tick}
use Rattle.plain_machine.specs.PlainMachine.{plain}
use Rattle.plain_machine.specs.PlainFrames.{plain_frames, reasons_of}
use Rattle.run_schedule.specs.Schedule.{HasSession, none_yet, course_on, running_after}
use Rattle.run_schedule.specs.ScheduleParts.{ScheduleParts}
use Rattle.run_schedule.specs.Source.{source_for}
use Rattle.run_schedule.specs.declared.schedule.EndCause.{EndCause}
use Rattle.run_schedule.specs.declared.schedule.EndCause.TheVariants as cause
use Rattle.run_schedule.specs.declared.schedule.ScheduleEntry.{ScheduleEntry}
use Rattle.run_schedule.specs.declared.schedule.What.TheVariants.{Sampled, Dropped}
use Rattle.run_schedule.specs.declared.schedule.What.TheVariants as what
use Rattle.isolate.specs.PlainFile.{given_up_for, plain_file, leaves_files}
use Rattle.isolate.specs.RunLaws.{last_time}
use Rattle.raised_so_far.specs.EntriesSoFar.{has_stop}
use Rattle.raised_so_far.specs.ItemsSoFar.{IsCodeItem}
use Rattle.raised_so_far.specs.Raised.{IsRaised, IsWhole}

-- the frames of a tick, over the ranges of what was raised, are the machine's after this many steps
abbrev pub ShowsMoment : List Func → ℕ → List Item → Tick → Type 0
ShowsMoment funcs step raised tick = tick_frames (ranges (events_of raised)) tick ≡ plain_frames funcs (plain funcs step)

-- the number of the next session to be started
abbrev pub next_number : List ScheduleEntry → SessionId
next_number entries = session (suc (course_on none_yet entries).started)

-- an entry at the step reached, not before the last one
pub record IsNow (entries : List ScheduleEntry) (step : ℕ) (entry : ScheduleEntry) : Type 0 where
  pub step_is : entry.step ≡ step
  pub time_is : last_time entries ≤ entry.time

-- the isolate opens: events of the code are raised, as the machine is before its first step
abbrev pub OpeningsAreRaised : Type 0
OpeningsAreRaised =
    (funcs : List Func) (base : ℕ) (events : List Item) → AllByRecursion IsCodeItem events
    → ((entry : Entry) → reasons (events_of events) entry ≡ reasons_of funcs (plain funcs 0) entry)
    → IsStamped events → IsRaised funcs base [] 0 events

-- a sample is entered, and its tick is raised
abbrev pub SamplesAreRaised : Type 0
SamplesAreRaised =
    (funcs : List Func) (base : ℕ) (entries : List ScheduleEntry) (step : ℕ) (raised : List Item) (entry : ScheduleEntry) (tick : Tick)
    → IsRaised funcs base entries step raised → IsNow entries step entry → entry.what ≡ Sampled → ShowsMoment funcs step raised tick
    → tick.time ≡ entry.time → tick.interval ≡ source_for base (running_after entries) → tick.hit ≡ true → tick.only ≡ None
    → IsStamped (raised ++ item.Tick tick ∷ [])
    → IsRaised funcs base (entries ++ entry ∷ []) step (raised ++ item.Tick tick ∷ [])

-- a dropped sample is entered, and nothing is raised
abbrev pub DropsRaiseNothing : Type 0
DropsRaiseNothing =
    (funcs : List Func) (base : ℕ) (entries : List ScheduleEntry) (step : ℕ) (raised : List Item) (entry : ScheduleEntry)
    → IsRaised funcs base entries step raised → IsNow entries step entry → entry.what ≡ Dropped
    → IsRaised funcs base (entries ++ entry ∷ []) step raised

-- a start is entered, and its mark and its tick are raised
abbrev pub StartsAreRaised : Type 0
StartsAreRaised =
    (funcs : List Func) (base : ℕ) (entries : List ScheduleEntry) (step : ℕ) (raised : List Item) (entry : ScheduleEntry) (e : EventRecord) (options : Options) (tick : Tick)
    → IsRaised funcs base entries step raised → IsNow entries step entry → entry.what ≡ what.Start options → length (running_after entries) < MAX_SESSIONS
    → e.event ≡ Start (next_number entries) options entry.time → ShowsMoment funcs step raised tick
    → tick.time ≡ entry.time → tick.interval ≡ 0 → tick.hit ≡ false → tick.only ≡ Some (next_number entries)
    → IsStamped (raised ++ item.Event e ∷ item.Tick tick ∷ [])
    → IsRaised funcs base (entries ++ entry ∷ []) step (raised ++ item.Event e ∷ item.Tick tick ∷ [])

-- a stop is entered, and its mark is raised
abbrev pub StopsAreRaised : Type 0
StopsAreRaised =
    (funcs : List Func) (base : ℕ) (entries : List ScheduleEntry) (step : ℕ) (raised : List Item) (entry : ScheduleEntry) (e : EventRecord) (port : ℕ) (number : SessionId)
    → IsRaised funcs base entries step raised → IsNow entries step entry → entry.what ≡ what.Stop port number
    → HasSession (running_after entries) (what.Stop port number)
    → e.event ≡ Stop number entry.time → IsStamped (raised ++ item.Event e ∷ [])
    → IsRaised funcs base (entries ++ entry ∷ []) step (raised ++ item.Event e ∷ [])

-- the machine does a step, and its events are raised; after them the tick of a deoptimisation, where a session runs
abbrev pub StepsAreRaised : Type 0
StepsAreRaised =
    (funcs : List Func) (base : ℕ) (entries : List ScheduleEntry) (step : ℕ) (raised events : List Item) (ticks : List Tick)
    → IsRaised funcs base entries step raised → AllByRecursion IsCodeItem events
    → ((entry : Entry) → reasons (events_of (raised ++ events)) entry ≡ reasons_of funcs (plain funcs (suc step)) entry)
    → map (λ tick. ticked (resolved_tick (ranges (events_of (raised ++ events))) tick)) ticks ≡ given_up_for (running_after entries) funcs (last_time entries) step 1
    → IsStamped (raised ++ events ++ map (λ tick. item.Tick tick) ticks)
    → IsRaised funcs base entries (suc step) (raised ++ events ++ map (λ tick. item.Tick tick) ticks)

-- the end is entered, and its mark is raised
abbrev pub EndsAreRaised : Type 0
EndsAreRaised =
    (funcs : List Func) (schedule : ScheduleParts) (entries : List ScheduleEntry) (step : ℕ) (raised : List Item) (entry : ScheduleEntry) (e : EventRecord) (cause : EndCause)
    → IsRaised funcs schedule.base entries step raised → IsNow entries step entry → entry.what ≡ what.End cause → schedule.entries ≡ entries ++ entry ∷ []
    → e.event ≡ Finish entry.time (leaves_files cause) → IsStamped (raised ++ item.Event e ∷ [])
    → IsWhole funcs schedule (raised ++ item.Event e ∷ [])

-- An end out of memory may follow items of a turn that was cut short: the sessions that were stopped before have their files all the same.
abbrev pub ShortTurnsKeepFiles : Type 0
ShortTurnsKeepFiles =
    (funcs : List Func) (schedule : ScheduleParts) (entries : List ScheduleEntry) (step time : ℕ) (raised more : List Item)
    → IsRaised funcs schedule.base entries step raised → schedule.entries ≡ entries ++ record { step = step; time = time; what = what.End cause.Memory } ∷ []
    → IsStamped (raised ++ more) → IsLegalItems (raised ++ more)
    → IsWhole funcs schedule (raised ++ more)

-- the file of a session that was stopped is the one that the entries say
abbrev pub FilesAreThePlainOnes : Type 0
FilesAreThePlainOnes =
    (funcs : List Func) (schedule : ScheduleParts) (step : ℕ) (raised : List Item) (number : SessionId)
    → IsRaised funcs schedule.base schedule.entries step raised → has_stop number.0 schedule.entries ≡ true
    → item_file schedule.base raised number ≡ plain_file funcs schedule number
