-- The entries from a place on.
use Rattle.std.proofs.Common.{◌≡◌, ℕ, zero, suc, ◌≤◌, List, [], ◌∷◌, length, refl, arith}
use Rattle.std.specs.List.{slice_get}
use Rattle.std.specs.Prelude.{drop}
use Rattle.run_schedule.specs.declared.schedule.ScheduleEntry.{ScheduleEntry}
use Rattle.schedule_ports.specs.ScheduleCalls.{next_of, without_next}

pub next_of-drop : (entries : List ScheduleEntry) (next : ℕ) → next_of (drop next entries) ≡ slice_get entries next
next_of-drop [] zero = refl
next_of-drop [] (suc next) = refl
next_of-drop (entry ∷ entries) zero = refl
next_of-drop (entry ∷ entries) (suc next) = next_of-drop entries next

pub drop_past : (entries : List ScheduleEntry) (next : ℕ) → length entries ≤ next → drop next entries ≡ []
drop_past [] zero past = refl
drop_past [] (suc next) past = refl
drop_past (entry ∷ entries) zero past = absurd (omega (arith, past))
drop_past (entry ∷ entries) (suc next) past = drop_past entries next (omega (arith, past))

pub drop_next : (entries : List ScheduleEntry) (next : ℕ) → drop (suc next) entries ≡ without_next (drop next entries)
drop_next [] zero = refl
drop_next [] (suc next) = refl
drop_next (entry ∷ entries) zero = refl
drop_next (entry ∷ entries) (suc next) = drop_next entries next
