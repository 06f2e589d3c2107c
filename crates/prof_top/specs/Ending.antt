-- The status of a call and its line of error, by how the call ended.
use Rattle.std.specs.Prelude.{ℕ, List, [], ◌∷◌, ◌++◌, codes, decimal, Result, Ok, Err}
use Rattle.guest_text.specs.declared.refused.ProgramCause.{ProgramCause}
use Rattle.guest_text.specs.declared.refused.ProgramCause.TheVariants as cause
use Rattle.prof_outer.specs.declared.depot.PutFault.{PutFault}
use Rattle.prof_outer.specs.declared.depot.PutFault.TheVariants as put
use Rattle.prof_outer.specs.declared.sink.SinkFault.{SinkFault}
use Rattle.prof_outer.specs.declared.sink.SinkFault.TheVariants as sink
use Rattle.record_text.specs.declared.refused.LineCause.{LineCause}
use Rattle.record_text.specs.declared.refused.LineCause.TheVariants as fault
use Rattle.run_schedule.specs.declared.schedule.EndCause.{EndCause}
use Rattle.run_schedule.specs.declared.schedule.EndCause.TheVariants as end
use Rattle.run_schedule.specs.declared.schedule.What.{What}
use Rattle.run_schedule.specs.declared.schedule.What.TheVariants.{End}
use Rattle.run_schedule.specs.declared.schedule.ScheduleEntry.{ScheduleEntry}
use Rattle.out_stream.specs.declared.stream.Undelivered.{Undelivered}
use Rattle.out_stream.specs.declared.stream.Undelivered.TheVariants as cut
use Rattle.prof_top.specs.declared.load.Unread.{Unread}
use Rattle.prof_top.specs.declared.load.Unread.TheVariants as unread
use Rattle.prof_top.specs.declared.ending.Ending.{Ending}
use Rattle.prof_top.specs.declared.ending.Ending.TheVariants.{Done, Usage, ProgramRefused, Missing, CannotRead, CannotWrite, Memory, Trapped, BudgetSpent, ItemsRefused, ScheduleFull, Aborted}
use Rattle.prof_top.specs.declared.ending.Trap.{Trap}
use Rattle.prof_top.specs.declared.ending.Trap.TheVariants as trap

abbrev pub status_of : Ending → ℕ
status_of Done = 0
status_of Usage = 1
status_of (ProgramRefused name line cause) = 2
status_of (Missing name) = 3
status_of (CannotRead name) = 4
status_of CannotWrite = 5
status_of Memory = 6
status_of (Trapped trap step) = 7
status_of (BudgetSpent steps) = 8
status_of (ItemsRefused line cause) = 10
status_of ScheduleFull = 13
status_of Aborted = 14

-- the word that names a cause of a program's refusal
abbrev pub cause_word : ProgramCause → List ℕ
cause_word cause.Word = codes "word"
cause_word cause.Number = codes "number"
cause_word cause.UnknownName = codes "unknown"
cause_word cause.Twice = codes "twice"
cause_word cause.Limit = codes "limit"
cause_word cause.NoMain = codes "nomain"

-- the line of error for a program's text that is refused
abbrev pub refused_line : List ℕ → ℕ → ProgramCause → List ℕ
refused_line name line cause = codes "cpuprof: program " ++ name ++ codes " line " ++ decimal line ++ codes ": " ++ cause_word cause ++ codes "\n"

-- the word that names a cause of another text's refusal
abbrev pub fault_word : LineCause → List ℕ
fault_word fault.Word = codes "word"
fault_word fault.Number = codes "number"
fault_word fault.Order = codes "order"
fault_word fault.Session = codes "session"
fault_word fault.Limit = codes "limit"
fault_word fault.Fit = codes "fit"

-- the line of error for an item list's text that is refused
abbrev pub items_refused_line : ℕ → LineCause → List ℕ
items_refused_line line cause = codes "cpuprof: items line " ++ decimal line ++ codes ": " ++ fault_word cause ++ codes "\n"

-- the word that names a trap
abbrev pub trap_word : Trap → List ℕ
trap_word trap.Overflow = codes "overflow"
trap_word trap.OffEnd = codes "offend"

-- the line of error for a guest that trapped at this step
abbrev pub trap_line : Trap → ℕ → List ℕ
trap_line trap step = codes "cpuprof: guest trap " ++ trap_word trap ++ codes " at step " ++ decimal step ++ codes "\n"

-- the line of error, or no bytes where all was done
abbrev pub line_of : Ending → List ℕ
line_of Done = []
line_of Usage = codes "cpuprof: usage\n"
line_of (ProgramRefused name line cause) = refused_line name line cause
line_of (Missing name) = codes "cpuprof: no file " ++ name ++ codes "\n"
line_of (CannotRead name) = codes "cpuprof: cannot read " ++ name ++ codes "\n"
line_of CannotWrite = codes "cpuprof: cannot write\n"
line_of (ItemsRefused line cause) = items_refused_line line cause
line_of Memory = codes "cpuprof: out of memory\n"
line_of (Trapped trap step) = trap_line trap step
line_of (BudgetSpent steps) = codes "cpuprof: budget of " ++ decimal steps ++ codes " steps is spent\n"
line_of ScheduleFull = codes "cpuprof: schedule is full\n"
line_of Aborted = codes "cpuprof: stream aborted\n"

-- how a call ends where the text under the name was not read
abbrev pub ending_of : Unread → List ℕ → Ending
ending_of unread.Missing name = Missing name
ending_of unread.CannotRead name = CannotRead name
ending_of (unread.ProgramRefused line cause) name = ProgramRefused name line cause
ending_of (unread.ItemsRefused line cause) name = ItemsRefused line cause
ending_of unread.Memory name = Memory

-- how a run is due to end whose schedule ends at this step for this cause
abbrev pub due_for : ℕ → EndCause → Ending
due_for step end.Halt = Done
due_for step end.Overflow = Trapped trap.Overflow step
due_for step end.OffEnd = Trapped trap.OffEnd step
due_for step end.Budget = BudgetSpent step
due_for step end.Full = ScheduleFull
due_for step end.Memory = Memory

-- the same, by what its last entry says
abbrev pub due_at : ℕ → What → Ending
due_at step (End cause) = due_for step cause
due_at step other = Done

-- how a run with these entries in its schedule is due to end: as the last of them says
abbrev pub due_of : List ScheduleEntry → Ending
due_of [] = Done
due_of (entry ∷ []) = due_at entry.step entry.what
due_of (entry ∷ next ∷ entries) = due_of (next ∷ entries)

-- work may be due to end in this way, where nothing goes wrong outside
abbrev pub IsDue : Ending → Type 0
IsDue Done = Unit {0}
IsDue (Trapped trap step) = Unit {0}
IsDue (BudgetSpent steps) = Unit {0}
IsDue ScheduleFull = Unit {0}
IsDue other = ⊥

-- this ending where the one that is due is `Done`, and else the one that is due
abbrev pub where_done : Ending → Ending → Ending
where_done Done ending = ending
where_done due ending = due

-- how a call ends once its work is done, by how the files were delivered, how the work was due to end, and how the text was written: out of memory first, then the stream, then the ending that was due, then the text
abbrev pub work_ending : Result (Unit {0}) Undelivered → Ending → Result (Unit {0}) SinkFault → Ending
work_ending (Err cut.Memory) due written = Memory
work_ending (Err cut.Aborted) due (Err sink.Memory) = Memory
work_ending (Err cut.Failed) due (Err sink.Memory) = Memory
work_ending (Ok u) due (Err sink.Memory) = Memory
work_ending (Err cut.Aborted) due (Err sink.Failed) = Aborted
work_ending (Err cut.Aborted) due (Ok u) = Aborted
work_ending (Err cut.Failed) due (Err sink.Failed) = CannotWrite
work_ending (Err cut.Failed) due (Ok u) = CannotWrite
work_ending (Ok u) due (Err sink.Failed) = where_done due CannotWrite
work_ending (Ok u) due (Ok v) = due

-- how a call ends that was to end in this way, by how the text of its schedule was put: a failed put counts only where all else was done
abbrev pub after_put : Ending → Result (Unit {0}) PutFault → Ending
after_put ending (Err put.Memory) = Memory
after_put ending (Err put.Failed) = where_done ending CannotWrite
after_put ending (Ok u) = ending

-- how a call ends, by how its line of error was written: only out of memory changes that
abbrev pub ending_after : Ending → Result (Unit {0}) SinkFault → Ending
ending_after ending (Err sink.Memory) = Memory
ending_after ending (Err sink.Failed) = ending
ending_after ending (Ok u) = ending

-- a call may end in this way once its work has begun
abbrev pub IsWorkEnding : Ending → Type 0
IsWorkEnding Done = Unit {0}
IsWorkEnding CannotWrite = Unit {0}
IsWorkEnding Memory = Unit {0}
IsWorkEnding (Trapped trap step) = Unit {0}
IsWorkEnding (BudgetSpent steps) = Unit {0}
IsWorkEnding ScheduleFull = Unit {0}
IsWorkEnding Aborted = Unit {0}
IsWorkEnding Usage = ⊥
IsWorkEnding (ProgramRefused name line cause) = ⊥
IsWorkEnding (ItemsRefused line cause) = ⊥
IsWorkEnding (Missing name) = ⊥
IsWorkEnding (CannotRead name) = ⊥
