-- The lines of the canonical text of a schedule spell it.
use Rattle.std.proofs.Common.{ℕ, ◌^◌, ◌<◌, List, [], ◌∷◌, refl, arith, codes, decimal, lit<}
use Rattle.std.specs.List.{AllByRecursion}
use Rattle.prof_lines.specs.Words.{InRange}
use Rattle.prof_lines.specs.Canonical.{IsLine, IsOneLine}
use Rattle.prof_lines.proofs.Canonical.{canonical_spells}
use Rattle.prof_lines.proofs.CanonicalLines.{is_line, word_one_line, decimal_begins_line}
use Rattle.prof_lines.proofs.Numbers.{decimal_word}
use Rattle.run_schedule.specs.declared.schedule.What.{What}
use Rattle.run_schedule.specs.declared.schedule.What.TheVariants.{Sampled, Dropped, Start, Stop, End}
use Rattle.run_schedule.specs.declared.schedule.ScheduleEntry.{ScheduleEntry}
use Rattle.record_text.specs.declared.schedule_line.ScheduleHead.{ScheduleHead}
use Rattle.record_text.specs.declared.schedule_line.ScheduleLine.{ScheduleLine}
use Rattle.record_text.specs.declared.schedule_line.ScheduleLine.TheVariants.{Head, Entry}
use Rattle.record_text.specs.ScheduleLine.{what_name, what_operands, head_words, entry_words, schedule_words, IsHead, IsWhat, IsEntry}
use Rattle.record_text.specs.ScheduleTexts.{schedule_lines, Fits, fault_after}
use Rattle.record_text.specs.ScheduleLaws.{CanonicalTextsSpell}
use Rattle.record_text.proofs.RecordWords.{mode_is_word, bound_is_word}
use Rattle.record_text.proofs.ScheduleForms.{cause_is_word, what_is_word}
use Rattle.record_text.proofs.ScheduleRanges.{rules_of_text}

-- these words have no line ends
abbrev AreOneLine : List (List ℕ) → Type 0
AreOneLine words = AllByRecursion IsOneLine words

number_one : (least most n : ℕ) → most < 2 ^ 64 → InRange least most n → IsOneLine (decimal n)
number_one least most n small fits = word_one_line (decimal n) (decimal_word n (omega (arith, fits.1, small)))

what_one : (what : What) → IsWhat what → AreOneLine (what_operands what)
what_one Sampled fits = tt
what_one Dropped fits = tt
what_one (Start options) fits = (
  number_one _ _ options.port (lit< tt) fits.0,
  (
    number_one _ _ options.interval (lit< tt) (options.low, options.high),
    (word_one_line _ (mode_is_word options.mode), (word_one_line _ (bound_is_word 0 options.max_samples fits.1), tt)),
  ),
)
what_one (Stop port session) fits = (number_one _ _ port (lit< tt) fits.0, (number_one _ _ session.0 (lit< tt) fits.1, tt))
what_one (End why) fits = (word_one_line _ (cause_is_word why), tt)

head_is_line : (head : ScheduleHead) → IsHead head → IsLine (head_words head)
head_is_line head fits =
    is_line (codes "schedule") (codes "1" ∷ decimal head.base ∷ decimal head.ring ∷ decimal head.budget ∷ decimal head.limit ∷ []) refl refl (
      refl,
      (
        number_one _ _ head.base (lit< tt) fits.base,
        (number_one _ _ head.ring (lit< tt) fits.ring, (number_one _ _ head.budget (lit< tt) fits.budget, (number_one _ _ head.limit (lit< tt) fits.limit, tt))),
      ),
    )

entry_is_line : (entry : ScheduleEntry) → IsEntry entry → IsLine (entry_words entry)
entry_is_line entry fits =
    is_line (decimal entry.step) (decimal entry.time ∷ what_name entry.what ∷ what_operands entry.what) (decimal_begins_line entry.step (omega (arith, fits.step.1)))
    (number_one _ _ entry.step (lit< tt) fits.step)
    (number_one _ _ entry.time (lit< tt) fits.time, (word_one_line _ (what_is_word entry.what), what_one entry.what fits.what))

line_is_line : (before : List ScheduleLine) (value : ScheduleLine) → Fits before value → IsLine (schedule_words value)
line_is_line [] (Head head) fits = head_is_line head fits
line_is_line [] (Entry entry) fits = absurd fits
line_is_line (first ∷ lines) (Head head) fits = absurd fits
line_is_line (first ∷ lines) (Entry entry) fits = entry_is_line entry fits

-- the lines of the canonical text of a schedule spell it
pub canonical_schedule : CanonicalTextsSpell
canonical_schedule s is = (canonical_spells Fits schedule_words fault_after line_is_line (schedule_lines s) (rules_of_text s is).each).1
