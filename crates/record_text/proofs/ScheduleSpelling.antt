-- The canonical text of a schedule, put together from its parts.
use Rattle.std.proofs.Common.{◌≡◌, ◌∙◌, ℕ, List, [], ◌∷◌, ◌++◌, map, refl, sym, ap, ap₂}
use Rattle.prof_lines.specs.Canonical.{text_of}
use Rattle.run_schedule.specs.declared.schedule.ScheduleEntry.{ScheduleEntry}
use Rattle.run_schedule.specs.ScheduleParts.{ScheduleParts}
use Rattle.record_text.specs.declared.schedule_line.ScheduleLine.TheVariants.{Entry}
use Rattle.record_text.specs.ScheduleLine.{schedule_words}
use Rattle.record_text.specs.ScheduleSpelling.{head_text, entry_text, entries_text}
use Rattle.record_text.specs.ScheduleTexts.{head_of, schedule_text}

lines_are : (entries : List ScheduleEntry) → text_of schedule_words (map (λ entry. Entry entry) entries) ≡ entries_text entries
lines_are [] = refl
lines_are (entry ∷ entries) = ap (λ (z : List ℕ). entry_text entry ++ z) (lines_are entries)

text_is : (s : ScheduleParts) → schedule_text s ≡ head_text (head_of s) ++ entries_text s.entries
text_is s = ap (λ (z : List ℕ). head_text (head_of s) ++ z) (lines_are s.entries)

-- the whole text, written one part after another
pub whole_put : (s : ScheduleParts) (entries : List ScheduleEntry) (start head whole : List ℕ) → start ≡ [] → head ≡ start ++ head_text (head_of s) → entries ≡ s.entries → whole ≡ head ++ entries_text entries → whole ≡ schedule_text s
whole_put s entries start head whole none a same b =
    b ∙ ap₂ (λ (x : List ℕ) (y : List ScheduleEntry). x ++ entries_text y) (a ∙ ap (λ (z : List ℕ). z ++ head_text (head_of s)) none) same ∙ sym (text_is s)
