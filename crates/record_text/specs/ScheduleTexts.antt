-- Schedules and their text.
use Rattle.std.specs.Prelude.{◌≡◌, ℕ, List, [], ◌∷◌, map, true, if◌then◌else◌, Result, Ok, Err, Option, None}
use Rattle.std.specs.List.{AllByRecursion}
use Rattle.prof_lines.specs.declared.fault.Cause.{Cause}
use Rattle.prof_lines.specs.declared.fault.Cause.TheVariants as causes
use Rattle.prof_lines.specs.Answers.{◌>>=◌}
use Rattle.prof_lines.specs.Lines.{counted}
use Rattle.prof_lines.specs.Folds.{placed, read_lines, read_text}
use Rattle.prof_lines.specs.Canonical.{text_of}
use Rattle.prof_lines.specs.Values.{next_value, Keeps, EachIsSpelled}
use Rattle.prof_lines.specs.Refused.{FoundAfter, IsRefusedText}
use Rattle.run_schedule.specs.declared.schedule.ScheduleEntry.{ScheduleEntry}
use Rattle.run_schedule.specs.Schedule.{has_end, IsLegalSchedule}
use Rattle.run_schedule.specs.ScheduleParts.{ScheduleParts, IsInRange}
use Rattle.record_text.specs.declared.rule.Rule.{Rule}
use Rattle.record_text.specs.declared.rule.Rule.TheVariants as rule
use Rattle.record_text.specs.declared.refused.LineCause.{LineCause}
use Rattle.record_text.specs.declared.refused.ReadRefused.{ReadRefused}
use Rattle.record_text.specs.declared.refused.ReadRefused.TheVariants as refused
use Rattle.record_text.specs.declared.schedule_line.ScheduleHead.{ScheduleHead}
use Rattle.record_text.specs.declared.schedule_line.ScheduleLine.{ScheduleLine}
use Rattle.record_text.specs.declared.schedule_line.ScheduleLine.TheVariants.{Head, Entry}
use Rattle.record_text.specs.Refusals.{line_cause}
use Rattle.record_text.specs.ScheduleLine.{schedule_words, IsHead, IsEntry}
use Rattle.record_text.specs.ScheduleForms.{head_at, entry_at}
use Rattle.record_text.specs.ScheduleRules.{entry_fault}

-- what the first line says of a schedule
abbrev pub head_of : ScheduleParts → ScheduleHead
head_of schedule = record { base = schedule.base; ring = schedule.ring; budget = schedule.budget; limit = schedule.limit }

-- the first line and those after it
abbrev pub with_head : ScheduleHead → List ScheduleEntry → List ScheduleLine
with_head head entries = Head head ∷ map (λ entry. Entry entry) entries

-- the lines of a schedule
abbrev pub schedule_lines : ScheduleParts → List ScheduleLine
schedule_lines schedule = with_head (head_of schedule) schedule.entries

-- the entries among these lines
abbrev pub entries_of : List ScheduleLine → List ScheduleEntry
entries_of [] = []
entries_of (Head head ∷ lines) = entries_of lines
entries_of (Entry entry ∷ lines) = entry ∷ entries_of lines

-- the schedule of a first line and of these entries
abbrev pub schedule_of : ScheduleHead → List ScheduleEntry → ScheduleParts
schedule_of head entries = record { base = head.base; ring = head.ring; budget = head.budget; limit = head.limit; entries = entries }

-- a line that may come after these: the first line, and then others
abbrev pub Fits : List ScheduleLine → ScheduleLine → Type 0
Fits [] (Head head) = IsHead head
Fits [] (Entry entry) = ⊥
Fits (first ∷ lines) (Head head) = ⊥
Fits (first ∷ lines) (Entry entry) = IsEntry entry

-- what is read of a line after these
abbrev pub line_after : List ScheduleLine → List ℕ → Result ScheduleLine (Cause Rule)
line_after [] bytes = head_at bytes >>= λ head. Ok (Head head)
line_after (first ∷ lines) bytes = entry_at bytes >>= λ entry. Ok (Entry entry)

-- the first rule that a line breaks after these
abbrev pub fault_after : List ScheduleLine → ScheduleLine → Option (Cause Rule)
fault_after (Head head ∷ lines) (Entry entry) = entry_fault (schedule_of head (entries_of lines)) entry
fault_after (Entry first ∷ lines) (Entry entry) = None
fault_after [] (Entry entry) = None
fault_after before (Head head) = None

-- the lines that were read, with one more
abbrev pub schedule_next : List ScheduleLine → List ℕ → Result (List ScheduleLine) (Cause Rule)
schedule_next before bytes = next_value line_after fault_after before bytes

-- the end of a text: there is a first line, and an entry that ends the run
abbrev pub schedule_end : List ScheduleLine → Result (List ScheduleLine) (Cause Rule)
schedule_end [] = Err causes.Word
schedule_end (first ∷ lines) = if has_end (entries_of (first ∷ lines)) then Ok (first ∷ lines) else Err (causes.Own rule.Order)

-- the lines that are read of a text, or its first fault
abbrev pub lines_read : List ℕ → Result (List ScheduleLine) (ℕ × Cause Rule)
lines_read text = read_text schedule_next schedule_end [] text

-- what is read of the lines that are left, after these, where the number after the last line is this one
abbrev pub rest_of : List ScheduleLine → List (ℕ × List ℕ) → ℕ → Result (List ScheduleLine) (ℕ × Cause Rule)
rest_of before lines after = read_lines schedule_next before lines >>= λ state. placed after (schedule_end state)

-- The numbers of these lines are in their ranges, each line keeps the rules after those before it, and there is an end.
pub record KeepRules (lines : List ScheduleLine) : Type 0 where
  pub each : Keeps Fits fault_after [] lines
  pub ended : has_end (entries_of lines) ≡ true

-- a legal schedule whose numbers are in the ranges that its text may give them
pub record IsTextSchedule (schedule : ScheduleParts) : Type 0 where
  pub legal : IsLegalSchedule schedule
  pub in_range : IsInRange schedule
  pub entries : AllByRecursion IsEntry schedule.entries

-- The lines of a text that are not passed over spell this schedule, line by line.
abbrev pub SpellsSchedule : List ℕ → ScheduleParts → Type 0
SpellsSchedule text schedule = EachIsSpelled schedule_words (schedule_lines schedule) (counted text)

-- the canonical text of a schedule
abbrev pub schedule_text : ScheduleParts → List ℕ
schedule_text schedule = text_of schedule_words (schedule_lines schedule)

-- The first fault of a text is at this line, and has this cause: the words of the line are at fault, or spell a value that breaks a rule after the lines before it; or the end of the text is at fault.
abbrev pub IsRefusedAt : List ℕ → ℕ → LineCause → Type 0
IsRefusedAt text number cause =
    (own : Cause Rule) × IsRefusedText Fits schedule_words fault_after (FoundAfter line_after) schedule_end text (number, own) × (cause ≡ line_cause own)

-- what a refusal says of the text; out of memory says nothing of it
abbrev pub IsRefusedSchedule : List ℕ → ReadRefused → Type 0
IsRefusedSchedule text (refused.At number cause) = IsRefusedAt text number cause
IsRefusedSchedule text refused.Memory = Unit {0}
