-- What is read of the text of a schedule.
use Rattle.std.proofs.Common.{◌≡◌, ◌∙◌, ℕ, List, [], ◌∷◌, true, Ok, Err, refl, sym, ap, subst}
use Rattle.prof_lines.specs.declared.fault.Cause.{Cause}
use Rattle.prof_lines.specs.Lines.{counted}
use Rattle.prof_lines.specs.Refused.{FoundAfter, IsRefusedText}
use Rattle.prof_lines.specs.Values.{EachIsSpelled}
use Rattle.prof_lines.proofs.Refusals.{text_refused}
use Rattle.prof_lines.proofs.Steps.{ok_same, guard_ok}
use Rattle.prof_lines.proofs.Values.{text_taken, text_again}
use Rattle.run_schedule.specs.declared.schedule.ScheduleEntry.{ScheduleEntry}
use Rattle.run_schedule.specs.Schedule.{has_end}
use Rattle.run_schedule.specs.ScheduleParts.{ScheduleParts}
use Rattle.record_text.specs.declared.rule.Rule.{Rule}
use Rattle.record_text.specs.declared.schedule_line.ScheduleHead.{ScheduleHead}
use Rattle.record_text.specs.declared.schedule_line.ScheduleLine.{ScheduleLine}
use Rattle.record_text.specs.declared.schedule_line.ScheduleLine.TheVariants.{Head, Entry}
use Rattle.record_text.specs.ScheduleLine.{schedule_words}
use Rattle.record_text.specs.ScheduleTexts.{schedule_lines, schedule_text, entries_of, schedule_of, Fits, line_after, fault_after, schedule_end, lines_read, KeepRules, IsTextSchedule, SpellsSchedule}
use Rattle.record_text.specs.ScheduleLaws.{TextsSpellOneSchedule, SchedulesHaveTheirTexts, CanonicalTextsStay}
use Rattle.record_text.proofs.ScheduleForms.{line_form}
use Rattle.record_text.proofs.ScheduleDrafts.{entries_are}
use Rattle.record_text.proofs.ScheduleRanges.{text_rules, rules_of_text}
use Rattle.record_text.proofs.CanonicalSchedules.{canonical_schedule}

-- the head of lines, if they begin with one
abbrev head_in : ScheduleHead → List ScheduleLine → ScheduleHead
head_in other [] = other
head_in other (Head head ∷ lines) = head
head_in other (Entry entry ∷ lines) = other

-- a schedule is determined by its lines
abbrev schedule_in : ScheduleHead → List ScheduleLine → ScheduleParts
schedule_in other lines = schedule_of (head_in other lines) (entries_of lines)

schedule_is : (other : ScheduleHead) (s : ScheduleParts) → schedule_in other (schedule_lines s) ≡ s
schedule_is other s = ap (λ (z : List ScheduleEntry). schedule_of (head_in other (schedule_lines s)) z) (entries_are s.entries)

lines_are_one : (one other : ScheduleParts) → schedule_lines one ≡ schedule_lines other → one ≡ other
lines_are_one one other h =
    let head : ScheduleHead = record { base = 0; ring = 0; budget = 0; limit = 0 } in
    sym (schedule_is head one) ∙ ap (schedule_in head) h ∙ schedule_is head other

end_keeps : (lines whole : List ScheduleLine) → schedule_end lines ≡ Ok whole → (lines ≡ whole) × (has_end (entries_of lines) ≡ true)
end_keeps [] whole h = absurd cc
end_keeps (first ∷ lines) whole h = let g = guard_ok (has_end (entries_of (first ∷ lines))) _ _ whole h in (ok_same _ _ g.1, g.0)

-- lines that were read keep the rules, and the text spells them
lines_taken : (text : List ℕ) (lines : List ScheduleLine) → lines_read text ≡ Ok lines → KeepRules lines × EachIsSpelled schedule_words lines (counted text)
lines_taken text lines h =
    let v = text_taken line_after Fits schedule_words fault_after schedule_end line_form text lines h in
    let e = end_keeps v.0 lines v.2 in
    subst (λ (z : List ScheduleLine). KeepRules z × EachIsSpelled schedule_words z (counted text)) e.0 (record { each = v.1.0; ended = e.1 }, v.1.1)

-- the lines of a schedule are read from a text that spells them
lines_again : (text : List ℕ) (s : ScheduleParts) → IsTextSchedule s → SpellsSchedule text s → lines_read text ≡ Ok (schedule_lines s)
lines_again text s is spells =
    let rules = rules_of_text s is in
    text_again line_after Fits schedule_words fault_after schedule_end line_form text (schedule_lines s) (schedule_lines s, (rules.each, spells), rw rules.ended refl)

pub spelled : (text : List ℕ) (s : ScheduleParts) → lines_read text ≡ Ok (schedule_lines s) → SpellsSchedule text s
spelled text s h = (lines_taken text (schedule_lines s) h).1

pub keeps_rules : (text : List ℕ) (s : ScheduleParts) → lines_read text ≡ Ok (schedule_lines s) → IsTextSchedule s
keeps_rules text s h = text_rules s (lines_taken text (schedule_lines s) h).0

pub only_schedule : (text : List ℕ) (read s : ScheduleParts) → lines_read text ≡ Ok (schedule_lines read) → IsTextSchedule s → SpellsSchedule text s → read ≡ s
only_schedule text read s h is spells = lines_are_one read s (ok_same _ _ (sym h ∙ lines_again text s is spells))

pub never_refused : (text : List ℕ) (place : ℕ × Cause Rule) (s : ScheduleParts) → lines_read text ≡ Err place → IsTextSchedule s → SpellsSchedule text s → ⊥
never_refused text place s h is spells = let again : lines_read text ≡ Ok (schedule_lines s) = lines_again text s is spells in absurd cc

pub refused_first : (text : List ℕ) (place : ℕ × Cause Rule) → lines_read text ≡ Err place → IsRefusedText Fits schedule_words fault_after (FoundAfter line_after) schedule_end text place
refused_first text place h =
    (text_refused line_after Fits schedule_words fault_after (FoundAfter line_after) schedule_end line_form (λ before. record { says = λ bytes cause e. e; again = λ bytes cause e. e }) text place).0 h

-- a text spells one schedule at most
pub texts_spell_one : TextsSpellOneSchedule
texts_spell_one text one other is_one is_other spells_one spells_other =
    lines_are_one one other (ok_same _ _ (sym (lines_again text one is_one spells_one) ∙ lines_again text other is_other spells_other))

pub canonical_texts_stay : CanonicalTextsStay
canonical_texts_stay s read is_schedule is_read spells = ap schedule_text (texts_spell_one (schedule_text s) read s is_read is_schedule spells (canonical_schedule s is_schedule))

pub schedules_have_their_texts : SchedulesHaveTheirTexts
schedules_have_their_texts one other is_one is_other same =
    texts_spell_one (schedule_text one) one other is_one is_other (canonical_schedule one is_one) (subst (λ (z : List ℕ). SpellsSchedule z other) (sym same) (canonical_schedule other is_other))
