-- The lines of a schedule's text: the words of each, and the ranges of their numbers.
use Rattle.std.specs.Prelude.{ℕ, ◌-◌, ◌^◌, List, [], ◌∷◌, codes, decimal}
use Rattle.prof_base.specs.declared.interval.TheConstants.{MAX_INTERVAL}
use Rattle.prof_lines.specs.Words.{InRange}
use Rattle.run_schedule.specs.declared.limits.TheConstants.{MAX_RING, MAX_BUDGET, MIN_ENTRIES, MAX_ENTRIES, MAX_PORT}
use Rattle.run_schedule.specs.declared.schedule.EndCause.{EndCause}
use Rattle.run_schedule.specs.declared.schedule.EndCause.TheVariants as cause
use Rattle.run_schedule.specs.declared.schedule.What.{What}
use Rattle.run_schedule.specs.declared.schedule.What.TheVariants.{Sampled, Dropped, Start, Stop, End}
use Rattle.run_schedule.specs.declared.schedule.ScheduleEntry.{ScheduleEntry}
use Rattle.record_text.specs.declared.schedule_line.ScheduleHead.{ScheduleHead}
use Rattle.record_text.specs.declared.schedule_line.ScheduleLine.{ScheduleLine}
use Rattle.record_text.specs.declared.schedule_line.ScheduleLine.TheVariants.{Head, Entry}
use Rattle.record_text.specs.Words.{mode_word, max_word, IsMax, IsTime}

abbrev pub cause_word : EndCause → List ℕ
cause_word cause.Halt = codes "halt"
cause_word cause.Overflow = codes "overflow"
cause_word cause.OffEnd = codes "offend"
cause_word cause.Budget = codes "budget"
cause_word cause.Full = codes "full"
cause_word cause.Memory = codes "memory"

-- the word that names what happened
abbrev pub what_name : What → List ℕ
what_name Sampled = codes "sampled"
what_name Dropped = codes "dropped"
what_name (Start options) = codes "start"
what_name (Stop port session) = codes "stop"
what_name (End cause) = codes "end"

-- the words after it
abbrev pub what_operands : What → List (List ℕ)
what_operands Sampled = []
what_operands Dropped = []
what_operands (Start options) = decimal options.port ∷ decimal options.interval ∷ mode_word options.mode ∷ max_word options.max_samples ∷ []
what_operands (Stop port session) = decimal port ∷ decimal session.0 ∷ []
what_operands (End cause) = cause_word cause ∷ []

-- the words of an entry's line
abbrev pub entry_words : ScheduleEntry → List (List ℕ)
entry_words entry = decimal entry.step ∷ decimal entry.time ∷ what_name entry.what ∷ what_operands entry.what

-- the words of the first line
abbrev pub head_words : ScheduleHead → List (List ℕ)
head_words head = codes "schedule" ∷ codes "1" ∷ decimal head.base ∷ decimal head.ring ∷ decimal head.budget ∷ decimal head.limit ∷ []

-- the words of a line
abbrev pub schedule_words : ScheduleLine → List (List ℕ)
schedule_words (Head head) = head_words head
schedule_words (Entry entry) = entry_words entry

-- the numbers of a first line are in their ranges
pub record IsHead (head : ScheduleHead) : Type 0 where
  pub base : InRange 1 MAX_INTERVAL head.base
  pub ring : InRange 1 MAX_RING head.ring
  pub budget : InRange 1 MAX_BUDGET head.budget
  pub limit : InRange MIN_ENTRIES MAX_ENTRIES head.limit

-- the numbers of what happened are in their ranges; an interval always is
abbrev pub IsWhat : What → Type 0
IsWhat Sampled = Unit {0}
IsWhat Dropped = Unit {0}
IsWhat (Start options) = InRange 0 MAX_PORT options.port × IsMax options.max_samples
IsWhat (Stop port session) = InRange 0 MAX_PORT port × InRange 1 (2 ^ 32 - 1) session.0
IsWhat (End cause) = Unit {0}

-- the numbers of an entry are in their ranges
pub record IsEntry (entry : ScheduleEntry) : Type 0 where
  pub step : InRange 0 MAX_BUDGET entry.step
  pub time : IsTime entry.time
  pub what : IsWhat entry.what
