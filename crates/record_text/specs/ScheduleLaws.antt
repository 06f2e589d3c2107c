-- What holds of all schedules and their texts.
use Rattle.std.specs.Prelude.{◌≡◌, ◌↔◌, ℕ, List, true, None}
use Rattle.run_schedule.specs.declared.schedule.What.{What}
use Rattle.run_schedule.specs.declared.schedule.ScheduleEntry.{ScheduleEntry}
use Rattle.run_schedule.specs.Schedule.{Running, HasSession, IsInOrder, IsWithinLimits, MayFollow}
use Rattle.run_schedule.specs.ScheduleParts.{ScheduleParts}
use Rattle.record_text.specs.ScheduleRules.{is_in_order, has_session, is_within_limits, entry_fault}
use Rattle.record_text.specs.ScheduleTexts.{schedule_lines, schedule_text, KeepRules, IsTextSchedule, SpellsSchedule}

-- the test of the rule Order is the rule
abbrev pub OrderIsTested : Type 0
OrderIsTested = (before : List ScheduleEntry) (entry : ScheduleEntry) → (is_in_order before entry ≡ true) ↔ IsInOrder before entry

-- the test of the rule Session is the rule
abbrev pub SessionIsTested : Type 0
SessionIsTested = (running : List Running) (what : What) → (has_session running what ≡ true) ↔ HasSession running what

-- the test of the rule Limit is the rule
abbrev pub LimitIsTested : Type 0
LimitIsTested = (schedule : ScheduleParts) (step : ℕ) (what : What) → (is_within_limits schedule step what ≡ true) ↔ IsWithinLimits schedule schedule.entries step what

-- an entry breaks no rule exactly where it may follow those before it
abbrev pub RulesAreTested : Type 0
RulesAreTested = (schedule : ScheduleParts) (entry : ScheduleEntry) → (entry_fault schedule entry ≡ None) ↔ MayFollow schedule schedule.entries entry

-- the lines that keep the rules of a text are those of the legal schedules whose numbers are in their ranges
abbrev pub LegalSchedulesKeepRules : Type 0
LegalSchedulesKeepRules = (schedule : ScheduleParts) → KeepRules (schedule_lines schedule) ↔ IsTextSchedule schedule

-- the canonical text of a schedule spells it
abbrev pub CanonicalTextsSpell : Type 0
CanonicalTextsSpell = (schedule : ScheduleParts) → IsTextSchedule schedule → SpellsSchedule (schedule_text schedule) schedule

-- a text spells one schedule at most
abbrev pub TextsSpellOneSchedule : Type 0
TextsSpellOneSchedule =
    (text : List ℕ) (one other : ScheduleParts) → IsTextSchedule one → IsTextSchedule other → SpellsSchedule text one → SpellsSchedule text other → one ≡ other

-- schedules with the same canonical text are equal
abbrev pub SchedulesHaveTheirTexts : Type 0
SchedulesHaveTheirTexts = (one other : ScheduleParts) → IsTextSchedule one → IsTextSchedule other → schedule_text one ≡ schedule_text other → one ≡ other

-- what a canonical text spells has this canonical text
abbrev pub CanonicalTextsStay : Type 0
CanonicalTextsStay =
    (schedule read : ScheduleParts) → IsTextSchedule schedule → IsTextSchedule read → SpellsSchedule (schedule_text schedule) read → schedule_text read ≡ schedule_text schedule
