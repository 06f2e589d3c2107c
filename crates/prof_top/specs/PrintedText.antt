-- What is printed of a run, and of a folded item list.
use Rattle.std.specs.Prelude.{ℕ, List, [], ◌++◌, length, flat_map, count_by, Bool, true, false, not, codes, decimal}
use Rattle.guest_program.specs.declared.instr.Func.{Func}
use Rattle.plain_machine.specs.PlainMachine.{plain}
use Rattle.item_fold.specs.declared.delivery.FileNote.{FileNote}
use Rattle.code_event.specs.ItemFile.{SessionFile}
use Rattle.code_event.specs.declared.tick.Item.{Item}
use Rattle.code_event.specs.declared.tick.Item.TheVariants as item
use Rattle.run_schedule.specs.Schedule.{is_sampled}
use Rattle.run_schedule.specs.ScheduleParts.{ScheduleParts}
use Rattle.run_schedule.specs.declared.schedule.EndCause.{EndCause}
use Rattle.run_schedule.specs.declared.schedule.EndCause.TheVariants as cause
use Rattle.run_schedule.specs.declared.schedule.What.{What}
use Rattle.run_schedule.specs.declared.schedule.What.TheVariants.{Dropped, End}
use Rattle.run_schedule.specs.declared.schedule.ScheduleEntry.{ScheduleEntry}
use Rattle.step_clock.specs.StepClock.{last_step}

-- the word that names why a run ended
abbrev pub end_word : EndCause → List ℕ
end_word cause.Halt = codes "halt"
end_word cause.Overflow = codes "overflow"
end_word cause.OffEnd = codes "offend"
end_word cause.Budget = codes "budget"
end_word cause.Full = codes "full"
end_word cause.Memory = codes "memory"

-- the line of an end: its cause and its step
abbrev pub end_line : ScheduleEntry → What → List ℕ
end_line entry (End cause) = codes "end " ++ end_word cause ++ codes " " ++ decimal entry.step ++ codes "\n"
end_line entry other = []

abbrev pub is_dropped : What → Bool
is_dropped Dropped = true
is_dropped other = false

-- how many samples were taken, and how many were dropped
abbrev pub counts_line : ℕ → ℕ → List ℕ
counts_line sampled dropped = codes "sampled " ++ decimal sampled ++ codes " dropped " ++ decimal dropped ++ codes "\n"

abbrev pub samples_line : List ScheduleEntry → List ℕ
samples_line entries = counts_line (count_by (λ entry. is_sampled entry.what) entries) (count_by (λ entry. is_dropped entry.what) entries)

-- the lines of a schedule
abbrev pub schedule_lines : List ScheduleEntry → List ℕ
schedule_lines entries = flat_map (λ entry. end_line entry entry.what) entries ++ samples_line entries

-- the line of a file: its session, and its length in bytes
abbrev pub file_line : SessionFile → List ℕ
file_line file = codes "file " ++ decimal file.session ++ codes " " ++ decimal (length file.text) ++ codes "\n"

-- the line of a file, by its note
abbrev pub note_line : FileNote → List ℕ
note_line note = codes "file " ++ decimal note.session.0 ++ codes " " ++ decimal note.length ++ codes "\n"

-- what is printed of a run and of the files that were delivered: the guest's own text, the lines of the schedule, and a line of each file
abbrev pub printed_text : List Func → ScheduleParts → List SessionFile → List ℕ
printed_text funcs schedule files =
    (plain funcs (last_step schedule.entries)).printed ++ schedule_lines schedule.entries ++ flat_map file_line files

abbrev pub is_tick : Item → Bool
is_tick (item.Event e) = false
is_tick (item.Tick t) = true

abbrev pub is_event : Item → Bool
is_event next = not (is_tick next)

-- how many events and how many ticks there are
abbrev pub kinds_line : ℕ → ℕ → List ℕ
kinds_line events ticks = codes "items " ++ decimal events ++ codes " " ++ decimal ticks ++ codes "\n"

-- the same of these items; starts and stops of sessions and a finish are events
abbrev pub items_line : List Item → List ℕ
items_line items = kinds_line (count_by is_event items) (count_by is_tick items)

-- what is printed of a folded item list and of the files that were delivered
abbrev pub fold_text : List Item → List SessionFile → List ℕ
fold_text items files = items_line items ++ flat_map file_line files
