-- How work is due to end, by the schedule of its run.
use Rattle.std.proofs.Common.{◌≡◌, ◌⊎◌, inl, inr, refl, ℕ, suc, ◌-◌, List, [], ◌∷◌, ◌++◌, length, Some, ap, sym, ◌∙◌, arith}
use Rattle.std.specs.List.{slice_get}
use Rattle.run_schedule.specs.declared.schedule.EndCause.{EndCause}
use Rattle.run_schedule.specs.declared.schedule.EndCause.TheVariants as end
use Rattle.run_schedule.specs.declared.schedule.What.{What}
use Rattle.run_schedule.specs.declared.schedule.What.TheVariants.{Sampled, Dropped, Start, Stop, End}
use Rattle.run_schedule.specs.declared.schedule.ScheduleEntry.{ScheduleEntry}
use Rattle.prof_top.specs.Ending.{due_for, due_at, due_of, IsDue}
use Rattle.prof_top.specs.declared.ending.Ending.{Ending}
use Rattle.prof_top.specs.declared.ending.Ending.TheVariants.{Memory}

-- the last of the entries decides
pub due_pushed : (entries : List ScheduleEntry) (last : ScheduleEntry) → due_of (entries ++ last ∷ []) ≡ due_at last.step last.what
due_pushed [] last = refl
due_pushed (entry ∷ []) last = refl
due_pushed (entry ∷ next ∷ entries) last = due_pushed (next ∷ entries) last

last_one : (entries : List ScheduleEntry) (next last : ScheduleEntry) → slice_get (next ∷ entries) (length (next ∷ entries) - 1) ≡ Some last → due_of (next ∷ entries) ≡ due_at last.step last.what
last_one [] next last is = let same : next ≡ last = cc is in ap (λ (entry : ScheduleEntry). due_at entry.step entry.what) same
last_one (other ∷ entries) next last is =
    let index : length (next ∷ other ∷ entries) - 1 ≡ suc (length (other ∷ entries) - 1) = omega arith in
    last_one entries other last (sym (ap (slice_get (next ∷ other ∷ entries)) index) ∙ is)

-- the entry at the last place decides
pub due_of_last : (entries : List ScheduleEntry) (last : ScheduleEntry) → slice_get entries (length entries - 1) ≡ Some last → due_of entries ≡ due_at last.step last.what
due_of_last [] last is = absurd (cc is)
due_of_last (next ∷ entries) last is = last_one entries next last is

-- work may be due to end in this way, or memory ran out in it
abbrev pub IsDueOrMemory : Ending → Type 0
IsDueOrMemory due = IsDue due ⊎ (due ≡ Memory)

due_for_or_memory : (step : ℕ) (cause : EndCause) → IsDueOrMemory (due_for step cause)
due_for_or_memory step end.Halt = inl tt
due_for_or_memory step end.Overflow = inl tt
due_for_or_memory step end.OffEnd = inl tt
due_for_or_memory step end.Budget = inl tt
due_for_or_memory step end.Full = inl tt
due_for_or_memory step end.Memory = inr refl

due_at_or_memory : (step : ℕ) (what : What) → IsDueOrMemory (due_at step what)
due_at_or_memory step (End cause) = due_for_or_memory step cause
due_at_or_memory step Sampled = inl tt
due_at_or_memory step Dropped = inl tt
due_at_or_memory step (Start options) = inl tt
due_at_or_memory step (Stop port session) = inl tt

pub due_or_memory : (entries : List ScheduleEntry) → IsDueOrMemory (due_of entries)
due_or_memory [] = inl tt
due_or_memory (entry ∷ []) = due_at_or_memory entry.step entry.what
due_or_memory (entry ∷ next ∷ entries) = due_or_memory (next ∷ entries)
