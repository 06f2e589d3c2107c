-- The canonical text of a schedule, part by part, as it is written.
use Rattle.std.specs.Prelude.{ℕ, List, ◌∷◌, flat_map}
use Rattle.prof_lines.specs.Canonical.{further, line_of}
use Rattle.run_schedule.specs.declared.schedule.What.{What}
use Rattle.run_schedule.specs.declared.schedule.What.TheVariants.{Sampled, Dropped, Start, Stop, End}
use Rattle.run_schedule.specs.declared.schedule.ScheduleEntry.{ScheduleEntry}
use Rattle.record_text.specs.declared.schedule_line.ScheduleHead.{ScheduleHead}
use Rattle.record_text.specs.Words.{IsMax, IsTime}
use Rattle.record_text.specs.ScheduleLine.{head_words, entry_words, what_name, what_operands}

-- the first line
abbrev pub head_text : ScheduleHead → List ℕ
head_text head = line_of (head_words head)

-- the words that say what happened, each after a space
abbrev pub what_text : What → List ℕ
what_text what = further (what_name what ∷ what_operands what)

-- the line of an entry
abbrev pub entry_text : ScheduleEntry → List ℕ
entry_text entry = line_of (entry_words entry)

-- the lines of entries
abbrev pub entries_text : List ScheduleEntry → List ℕ
entries_text entries = flat_map entry_text entries

-- the numbers of what happened that are in their ranges by the types of a schedule alone
abbrev pub FitsWhat : What → Type 0
FitsWhat (Start options) = IsMax options.max_samples
FitsWhat Sampled = Unit {0}
FitsWhat Dropped = Unit {0}
FitsWhat (Stop port session) = Unit {0}
FitsWhat (End cause) = Unit {0}

-- the same of an entry
pub record FitsTypes (entry : ScheduleEntry) : Type 0 where
  pub time : IsTime entry.time
  pub what : FitsWhat entry.what
