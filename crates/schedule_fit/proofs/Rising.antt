-- The steps of a legal schedule's entries rise.
use Rattle.std.proofs.Common.{◌≡◌, ℕ, ◌+◌, ◌<◌, ◌≤◌, List, [], ◌∷◌, ◌++◌, length, drop, get_or, sym, subst, arith}
use Rattle.std.proofs.lemmas.List.{drop_more}
use Rattle.std.specs.List.{AllByRecursion}
use Rattle.run_schedule.specs.Schedule.{EachMayFollow, IsLegalSchedule, MayStandBehind}
use Rattle.run_schedule.specs.ScheduleParts.{ScheduleParts}
use Rattle.run_schedule.specs.declared.schedule.ScheduleEntry.{ScheduleEntry}
use Rattle.schedule_fit.specs.Unfits.{Rise}

-- an entry is not before the one that stands right before it
not_before : (before : List ScheduleEntry) (last entry : ScheduleEntry) → AllByRecursion (MayStandBehind entry) (before ++ last ∷ []) → last.step ≤ entry.step
not_before [] last entry order = order.0.step
not_before (first ∷ before) last entry order = not_before before last entry order.1

after_one : (schedule : ScheduleParts) (before : List ScheduleEntry) (last : ScheduleEntry) (entries : List ScheduleEntry)
    → EachMayFollow schedule (before ++ last ∷ []) entries → Rise last.step entries
after_one schedule before last [] each = tt
after_one schedule before last (entry ∷ entries) each =
    (not_before before last entry each.0.order, after_one schedule (before ++ last ∷ []) entry entries each.1)

from_start : (schedule : ScheduleParts) (entries : List ScheduleEntry) → EachMayFollow schedule [] entries → Rise 0 entries
from_start schedule [] each = tt
from_start schedule (entry ∷ entries) each = (omega arith, after_one schedule [] entry entries each.1)

pub legal_rise : (schedule : ScheduleParts) → IsLegalSchedule schedule → Rise 0 schedule.entries
legal_rise schedule legal = from_start schedule schedule.entries legal.each

-- what rises from a step rises from an earlier one
pub rise_earlier : (earlier later : ℕ) (entries : List ScheduleEntry) → earlier ≤ later → Rise later entries → Rise earlier entries
rise_earlier earlier later [] before rise = tt
rise_earlier earlier later (entry ∷ entries) before rise = (omega (arith, before, rise.0), rise.1)

-- the next entry is not before the step, and those after it rise from its step
pub next_rise : (step : ℕ) (entries : List ScheduleEntry) (number : ℕ) (entry : ScheduleEntry) → number < length entries → entry ≡ get_or entries number entry → Rise step (drop number entries)
    → (step ≤ entry.step) × Rise entry.step (drop (number + 1) entries)
next_rise step entries number entry within is rise =
    subst (λ e. (step ≤ e.step) × Rise e.step (drop (number + 1) entries)) (sym is)
    (subst (Rise step) (drop_more entries number entry within) rise)
