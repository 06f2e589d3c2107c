-- What is seen of a run entry by entry, and which files it has.
use Rattle.std.specs.Prelude.{◌≡◌, ℕ, ◌-◌, List, [], ◌∷◌, ◌++◌, map, length, Contains, true, Some, None, if◌then◌else◌}
use Rattle.guest_program.specs.declared.instr.Func.{Func}
use Rattle.code_event.specs.FileLaws.{sessions_of}
use Rattle.code_event.specs.ItemFile.{SessionFile, session}
use Rattle.code_event.specs.Seen.{Seen}
use Rattle.run_schedule.specs.Schedule.{Course, IsLegalSchedule, none_yet, course_after, course_on, running_after}
use Rattle.run_schedule.specs.ScheduleParts.{ScheduleParts}
use Rattle.run_schedule.specs.Source.{source_after}
use Rattle.run_schedule.specs.declared.schedule.What.{What}
use Rattle.run_schedule.specs.declared.schedule.What.TheVariants.{Sampled, Stop, End}
use Rattle.run_schedule.specs.declared.schedule.ScheduleEntry.{ScheduleEntry}
use Rattle.isolate.specs.PlainFile.{given_up_for, leaves_files, plain_file, plain_files, seen_of, seen_on, tick_at}

-- the step of the last of these entries, or this step where there are none
abbrev pub step_behind : ℕ → List ScheduleEntry → ℕ
step_behind step [] = step
step_behind step (entry ∷ entries) = step_behind entry.step entries

-- the time of the last of these entries, or this time where there are none
abbrev pub time_behind : ℕ → List ScheduleEntry → ℕ
time_behind time [] = time
time_behind time (entry ∷ entries) = time_behind entry.time entries

-- the step of the last of these entries, or 0 where there are none
abbrev pub last_step : List ScheduleEntry → ℕ
last_step entries = step_behind 0 entries

-- the time of the last of these entries, or 0 where there are none
abbrev pub last_time : List ScheduleEntry → ℕ
last_time entries = time_behind 0 entries

-- the deoptimisations that are seen between these entries and one at this step
abbrev pub given_up_until : List Func → List ScheduleEntry → ℕ → List Seen
given_up_until funcs entries step = given_up_for (running_after entries) funcs (last_time entries) (last_step entries) (step - last_step entries)

-- each entry adds what is seen of it, and before that the deoptimisations since the entry before it
abbrev pub EntriesAddWhatIsSeen : Type 0
EntriesAddWhatIsSeen =
    (funcs : List Func) (base : ℕ) (entries : List ScheduleEntry) (next : ScheduleEntry)
    → seen_on funcs base (entries ++ next ∷ [])
    ≡ seen_on funcs base entries ++ given_up_until funcs entries next.step ++ seen_of funcs base (course_on none_yet entries) next.step next.time next.what

-- a sample is seen as a hit, with the source interval at that place of the schedule
abbrev pub SamplesHaveTheSourceInterval : Type 0
SamplesHaveTheSourceInterval =
    (funcs : List Func) (schedule : ScheduleParts) (before after : List ScheduleEntry) (entry : ScheduleEntry) → schedule.entries ≡ before ++ entry ∷ after → entry.what ≡ Sampled
    → seen_on funcs schedule.base (before ++ entry ∷ [])
    ≡ seen_on funcs schedule.base before ++ given_up_until funcs before entry.step ++ tick_at funcs entry.step entry.time (source_after schedule (length before)) true None ∷ []

-- the sessions that an entry ends: the one that is stopped; at the end those that run, in the order of their numbers, unless the run ended out of memory
abbrev pub ended_by : Course → What → List ℕ
ended_by course (Stop port number) = number.0 ∷ []
ended_by course (End cause) = if leaves_files cause then map (λ running. running.session) course.running else []
ended_by course other = []

-- the sessions that entries end, in order
abbrev pub ended_on : Course → List ScheduleEntry → List ℕ
ended_on course [] = []
ended_on course (entry ∷ entries) = ended_by course entry.what ++ ended_on (course_after course entry.what) entries

-- in a legal schedule each session that is stopped, or that the end finishes with files, has its file, in that order, and no other session has one
abbrev pub EachEndHasAFile : Type 0
EachEndHasAFile = (funcs : List Func) (schedule : ScheduleParts) → IsLegalSchedule schedule → sessions_of (plain_files funcs schedule) ≡ ended_on none_yet schedule.entries

-- each file is that of its session
abbrev pub FilesAreTheirSessions : Type 0
FilesAreTheirSessions =
    (funcs : List Func) (schedule : ScheduleParts) (file : SessionFile) → Contains (plain_files funcs schedule) file → plain_file funcs schedule (session file.session) ≡ Some file.text
