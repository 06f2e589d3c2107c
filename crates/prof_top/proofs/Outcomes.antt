-- How a call turned out: once the line of error was written, and what it says of the schedules.
use Rattle.std.proofs.Common.{◌≡◌, ◌⊎◌, inl, inr, ℕ, ◌≤◌, List, [], ◌∷◌, length, refl, ap, sym, subst, ◌∙◌, arith}
use Rattle.std.specs.Prelude.{Option}
use Rattle.std.specs.List.{AllByRecursion}
use Rattle.guest_program.specs.declared.instr.Func.{Func}
use Rattle.out_stream.specs.Parts.{Parts}
use Rattle.prof_outer.specs.Files.{FileMap}
use Rattle.run_schedule.specs.Schedule.{IsLegalSchedule}
use Rattle.run_schedule.specs.ScheduleParts.{ScheduleParts}
use Rattle.prof_top.proofs.Endings.{IsDueOrMemory, due_or_memory}
use Rattle.prof_top.proofs.Handed.{handed_at_last}
use Rattle.prof_top.specs.Command.{AsksToRun}
use Rattle.prof_top.specs.Ending.{status_of}
use Rattle.prof_top.specs.HandedOut.{Outlets, outlets, IsEndedSo}
use Rattle.prof_top.specs.Outcome.{IsAfterWork, IsBeforeWork, IsDone, IsWorked, HasOutcome}
use Rattle.prof_top.specs.Product.{Product, Makes}
use Rattle.prof_top.specs.RunSchedule.{IsRunSchedule}
use Rattle.prof_top.specs.Task.{IsLoaded, OfRun}
use Rattle.prof_top.specs.declared.ending.Ending.{Ending}
use Rattle.prof_top.specs.declared.ending.Ending.TheVariants.{Done, Memory, Trapped, BudgetSpent, ScheduleFull}
use Rattle.prof_top.specs.declared.load.Task.{Task}
use Rattle.prof_top.specs.declared.load.Task.TheVariants as task
use Rattle.prof_top.specs.declared.words.RunOptions.{RunOptions}

-- the status is 6, or one of a call that did nothing
abbrev IsBefore : ℕ → Type 0
IsBefore status = (status ≡ 6) ⊎ IsBeforeWork status

-- what was worked on is the outcome
pub worked_on : (words : List (List ℕ)) (held : Option FileMap) (t : Task) (status : ℕ) (schedules : List ScheduleParts) (before now : Outlets)
    → IsLoaded words held t → IsWorked t status schedules before now → HasOutcome words held status schedules before now
worked_on words held t status schedules before now loaded (inl done) = inl (t, loaded, done)
worked_on words held t status schedules before now loaded (inr (inl idle)) = inr (inl (inl idle.0, idle.1))
worked_on words held (task.Run funcs options) status schedules before now loaded (inr (inr out)) = inr (inr (out.0, (loaded.0, options.every, loaded.1, loaded.2), out.1))
worked_on words held (task.Fold list) status schedules before now loaded (inr (inr out)) = absurd out.1

-- the same outcome where no write to the depot had failed since an earlier moment
pub outcome_from : (words : List (List ℕ)) (held : Option FileMap) (status : ℕ) (schedules : List ScheduleParts) (parts : Option Parts) (aborts faults : ℕ) (written : Option (List ℕ)) (out_faults write_faults first : ℕ) (now : Outlets)
    → first ≡ write_faults → HasOutcome words held status schedules (outlets parts aborts faults written out_faults first) now
    → HasOutcome words held status schedules (outlets parts aborts faults written out_faults write_faults) now
outcome_from words held status schedules parts aborts faults written out_faults write_faults first now same outcome =
    subst (λ (n : ℕ). HasOutcome words held status schedules (outlets parts aborts faults written out_faults n) now) same outcome

-- only out of memory changes the status once the line of error was written
pub last_status : (ending last : Ending) → (last ≡ ending) ⊎ (last ≡ Memory) → (status_of last ≡ status_of ending) ⊎ (status_of last ≡ 6)
last_status ending last (inl same) = inl (ap status_of same)
last_status ending last (inr memory) = inr (ap status_of memory)

done_at_last : (t : Task) (status last : ℕ) (schedules : List ScheduleParts) (before now : Outlets) → (last ≡ status) ⊎ (last ≡ 6)
    → IsDone t status schedules before now → IsDone t last schedules before now
done_at_last t status last schedules before now how done = record {
  product = done.product;
  makes = done.makes;
  schedules_are = done.schedules_are;
  handed = handed_at_last done.product.files done.product.text status last before now how done.handed;
  ended = elim how [
    | inl same ↦ subst (λ s. IsEndedSo done.product.due s before now) (sym same) done.ended
    | inr memory ↦ inl memory
  ];
}

-- the same outcome once the line of error was written
pub outcome_at_last : (words : List (List ℕ)) (held : Option FileMap) (status last : ℕ) (schedules : List ScheduleParts) (before now : Outlets) → (last ≡ status) ⊎ (last ≡ 6)
    → HasOutcome words held status schedules before now → HasOutcome words held last schedules before now
outcome_at_last words held status last schedules before now how (inl done) = inl (done.0, done.1, done_at_last done.0 status last schedules before now how done.2)
outcome_at_last words held status last schedules before now (inl same) (inr (inl idle)) = inr (inl (subst IsBefore (sym same) idle.0, idle.1))
outcome_at_last words held status last schedules before now (inr memory) (inr (inl idle)) = inr (inl (inl memory, idle.1))
outcome_at_last words held status last schedules before now (inl same) (inr (inr out)) = inr (inr (same ∙ out.0, out.1, out.2))
outcome_at_last words held status last schedules before now (inr memory) (inr (inr out)) = inr (inr (memory, out.1, out.2))

-- the same by the status of the call
pub outcome_with : (words : List (List ℕ)) (held : Option FileMap) (status number : ℕ) (schedules : List ScheduleParts) (before now : Outlets) → number ≡ status
    → HasOutcome words held status schedules before now → HasOutcome words held number schedules before now
outcome_with words held status number schedules before now same outcome = outcome_at_last words held status number schedules before now (inl same) outcome

-- there is no schedule, or the one of the run that the words ask for
pub record IsRun (words : List (List ℕ)) (held : Option FileMap) (schedules : List ScheduleParts) : Type 0 where
  pub funcs : List Func
  pub options : RunOptions
  pub loaded : IsLoaded words held (task.Run funcs options)
  pub schedule : ScheduleParts
  pub is : IsRunSchedule funcs options schedule
  pub one : schedules ≡ schedule ∷ []

pub run_or_none : (words : List (List ℕ)) (held : Option FileMap) (status : ℕ) (schedules : List ScheduleParts) (before now : Outlets)
    → HasOutcome words held status schedules before now → (schedules ≡ []) ⊎ IsRun words held schedules
run_or_none words held status schedules before now (inl (task.Run funcs options, loaded, done)) = inr (record {
  funcs = funcs;
  options = options;
  loaded = loaded;
  schedule = done.makes.0;
  is = done.makes.1;
  one = done.schedules_are ∙ ap (λ product. product.schedules) done.makes.2;
})
run_or_none words held status schedules before now (inl (task.Fold list, loaded, done)) = inl (done.schedules_are ∙ ap (λ product. product.schedules) done.makes)
run_or_none words held status schedules before now (inr (inl idle)) = inl idle.1.none
run_or_none words held status schedules before now (inr (inr out)) = inl out.2.none

-- what holds of the schedule of a run holds of each schedule that is returned
pub each_of : (words : List (List ℕ)) (held : Option FileMap) (schedules : List ScheduleParts) (P : List Func → RunOptions → ScheduleParts → Type 0)
    → ((funcs : List Func) (options : RunOptions) (schedule : ScheduleParts) → IsRunSchedule funcs options schedule → P funcs options schedule)
    → (schedules ≡ []) ⊎ IsRun words held schedules → AllByRecursion (λ schedule. OfRun words held (λ funcs options. P funcs options schedule)) schedules
each_of words held schedules P holds (inl none) = subst (AllByRecursion (λ schedule. OfRun words held (λ funcs options. P funcs options schedule))) (sym none) tt
each_of words held schedules P holds (inr run) =
    subst (AllByRecursion (λ schedule. OfRun words held (λ funcs options. P funcs options schedule))) (sym run.one)
    ((run.funcs, run.options, run.loaded, holds run.funcs run.options run.schedule run.is), tt)

pub all_legal : (words : List (List ℕ)) (held : Option FileMap) (schedules : List ScheduleParts) → (schedules ≡ []) ⊎ IsRun words held schedules → AllByRecursion IsLegalSchedule schedules
all_legal words held schedules (inl none) = subst (AllByRecursion IsLegalSchedule) (sym none) tt
all_legal words held schedules (inr run) = subst (AllByRecursion IsLegalSchedule) (sym run.one) (run.is.legal, tt)

pub at_most_one : (words : List (List ℕ)) (held : Option FileMap) (schedules : List ScheduleParts) → (schedules ≡ []) ⊎ IsRun words held schedules → length schedules ≤ 1
at_most_one words held schedules (inl none) = let count = ap length none in omega (arith, count)
at_most_one words held schedules (inr run) = let count = ap length run.one in omega (arith, count)

not_before : (n : ℕ) → (n ≡ 1 → ⊥) → (n ≡ 2 → ⊥) → (n ≡ 3 → ⊥) → (n ≡ 4 → ⊥) → (n ≡ 10 → ⊥) → IsBeforeWork n → ⊥
not_before n one two three four ten (inl is) = one is
not_before n one two three four ten (inr (inl is)) = two is
not_before n one two three four ten (inr (inr (inl is))) = three is
not_before n one two three four ten (inr (inr (inr (inl is)))) = four is
not_before n one two three four ten (inr (inr (inr (inr is)))) = ten is

not_6_before : IsBeforeWork 6 → ⊥
not_6_before before = not_before 6 (λ e. omega (arith, e)) (λ e. omega (arith, e)) (λ e. omega (arith, e)) (λ e. omega (arith, e)) (λ e. omega (arith, e)) before

-- no status is of both kinds
after_is_not_before : (status : ℕ) → IsAfterWork status → IsBeforeWork status → ⊥
after_is_not_before status (inl is) before = not_before 0 (λ e. omega (arith, e)) (λ e. omega (arith, e)) (λ e. omega (arith, e)) (λ e. omega (arith, e)) (λ e. omega (arith, e)) (subst IsBeforeWork is before)
after_is_not_before status (inr (inl is)) before = not_before 5 (λ e. omega (arith, e)) (λ e. omega (arith, e)) (λ e. omega (arith, e)) (λ e. omega (arith, e)) (λ e. omega (arith, e)) (subst IsBeforeWork is before)
after_is_not_before status (inr (inr (inl is))) before = not_before 7 (λ e. omega (arith, e)) (λ e. omega (arith, e)) (λ e. omega (arith, e)) (λ e. omega (arith, e)) (λ e. omega (arith, e)) (subst IsBeforeWork is before)
after_is_not_before status (inr (inr (inr (inl is)))) before = not_before 8 (λ e. omega (arith, e)) (λ e. omega (arith, e)) (λ e. omega (arith, e)) (λ e. omega (arith, e)) (λ e. omega (arith, e)) (subst IsBeforeWork is before)
after_is_not_before status (inr (inr (inr (inr (inl is))))) before = not_before 13 (λ e. omega (arith, e)) (λ e. omega (arith, e)) (λ e. omega (arith, e)) (λ e. omega (arith, e)) (λ e. omega (arith, e)) (subst IsBeforeWork is before)
after_is_not_before status (inr (inr (inr (inr (inr is))))) before = not_before 14 (λ e. omega (arith, e)) (λ e. omega (arith, e)) (λ e. omega (arith, e)) (λ e. omega (arith, e)) (λ e. omega (arith, e)) (subst IsBeforeWork is before)

never_both : (status : ℕ) → IsBeforeWork status → (status ≡ 6) ⊎ IsAfterWork status → ⊥
never_both status before (inl six) = not_6_before (subst IsBeforeWork six before)
never_both status before (inr after) = after_is_not_before status after before

-- no status after work is 6
never_six : (status : ℕ) → IsAfterWork status → status ≡ 6 → ⊥
never_six status (inl is) six = omega (arith, is, six)
never_six status (inr (inl is)) six = omega (arith, is, six)
never_six status (inr (inr (inl is))) six = omega (arith, is, six)
never_six status (inr (inr (inr (inl is)))) six = omega (arith, is, six)
never_six status (inr (inr (inr (inr (inl is))))) six = omega (arith, is, six)
never_six status (inr (inr (inr (inr (inr is))))) six = omega (arith, is, six)

-- the status of work that is due to end in this way
due_status : (due : Ending) → IsDueOrMemory due → (status_of due ≡ 6) ⊎ IsAfterWork (status_of due)
due_status due (inr memory) = inl (ap status_of memory)
due_status Done (inl is) = inr (inl refl)
due_status (Trapped trap step) (inl is) = inr (inr (inr (inl refl)))
due_status (BudgetSpent steps) (inl is) = inr (inr (inr (inr (inl refl))))
due_status ScheduleFull (inl is) = inr (inr (inr (inr (inr (inl refl)))))
due_status due (inl is) = absurd is

after_due : (due : Ending) (status : ℕ) (before now : Outlets) → IsDueOrMemory due → IsEndedSo due status before now → (status ≡ 6) ⊎ IsAfterWork status
after_due due status before now is (inl six) = inl six
after_due due status before now is (inr (inl aborted)) = inr (inr (inr (inr (inr (inr aborted.0)))))
after_due due status before now is (inr (inr (inl failed))) = inr (inr (inl failed.0))
after_due due status before now is (inr (inr (inr same))) = subst (λ s. (s ≡ 6) ⊎ IsAfterWork s) (sym same) (due_status due is)

made_due : (t : Task) (product : Product) → Makes t product → IsDueOrMemory product.due
made_due (task.Run funcs options) product makes = subst IsDueOrMemory (sym (ap (λ p. p.due) makes.2)) (due_or_memory makes.0.entries)
made_due (task.Fold list) product makes = subst IsDueOrMemory (sym (ap (λ p. p.due) makes)) (inl tt)

-- the status of what was done
pub done_status : (t : Task) (status : ℕ) (schedules : List ScheduleParts) (before now : Outlets) → IsDone t status schedules before now → (status ≡ 6) ⊎ IsAfterWork status
done_status t status schedules before now done = after_due done.product.due status before now (made_due t done.product done.makes) done.ended

-- where nothing was done, there is no schedule
pub none_before : (words : List (List ℕ)) (held : Option FileMap) (status : ℕ) (schedules : List ScheduleParts) (before now : Outlets)
    → HasOutcome words held status schedules before now → IsBeforeWork status → schedules ≡ []
none_before words held status schedules before now (inl done) is = absurd (never_both status is (done_status done.0 status schedules before now done.2))
none_before words held status schedules before now (inr (inl idle)) is = idle.1.none
none_before words held status schedules before now (inr (inr out)) is = out.2.none

-- after a run there is one
pub one_after : (words : List (List ℕ)) (held : Option FileMap) (status : ℕ) (schedules : List ScheduleParts) (before now : Outlets)
    → HasOutcome words held status schedules before now → AsksToRun words → IsAfterWork status → length schedules ≡ 1
one_after words held status schedules before now (inl (task.Run funcs options, loaded, done)) asks is = ap length (done.schedules_are ∙ ap (λ product. product.schedules) done.makes.2)
one_after words held status schedules before now (inl (task.Fold list, loaded, done)) asks is = absurd (let both = sym loaded.1.spelled ∙ asks.3.spelled in cc both)
one_after words held status schedules before now (inr (inl (inl six, idle))) asks is = absurd (never_six status is six)
one_after words held status schedules before now (inr (inl (inr first, idle))) asks is = absurd (never_both status first (inr is))
one_after words held status schedules before now (inr (inr out)) asks is = absurd (never_six status is out.0)

-- only a guest's own end has these statuses
abbrev pub IsOfGuest : ℕ → Type 0
IsOfGuest status = (status ≡ 7) ⊎ ((status ≡ 8) ⊎ (status ≡ 13))

guest_is_after : (status : ℕ) → IsOfGuest status → IsAfterWork status
guest_is_after status (inl is) = inr (inr (inl is))
guest_is_after status (inr (inl is)) = inr (inr (inr (inl is)))
guest_is_after status (inr (inr is)) = inr (inr (inr (inr (inl is))))

-- a fold has no guest
not_of_fold : (status : ℕ) (before now : Outlets) → IsEndedSo Done status before now → IsOfGuest status → ⊥
not_of_fold status before now (inl is) guest = never_six status (guest_is_after status guest) is
not_of_fold status before now (inr (inl is)) (inl guest) = omega (arith, is.0, guest)
not_of_fold status before now (inr (inl is)) (inr (inl guest)) = omega (arith, is.0, guest)
not_of_fold status before now (inr (inl is)) (inr (inr guest)) = omega (arith, is.0, guest)
not_of_fold status before now (inr (inr (inl is))) (inl guest) = omega (arith, is.0, guest)
not_of_fold status before now (inr (inr (inl is))) (inr (inl guest)) = omega (arith, is.0, guest)
not_of_fold status before now (inr (inr (inl is))) (inr (inr guest)) = omega (arith, is.0, guest)
not_of_fold status before now (inr (inr (inr is))) (inl guest) = omega (arith, is, guest)
not_of_fold status before now (inr (inr (inr is))) (inr (inl guest)) = omega (arith, is, guest)
not_of_fold status before now (inr (inr (inr is))) (inr (inr guest)) = omega (arith, is, guest)

-- where a guest came to its own end, the words ask for its run
pub asks_to_run : (words : List (List ℕ)) (held : Option FileMap) (status : ℕ) (schedules : List ScheduleParts) (before now : Outlets)
    → HasOutcome words held status schedules before now → IsOfGuest status → AsksToRun words
asks_to_run words held status schedules before now (inl (task.Run funcs options, loaded, done)) guest = (loaded.0, options.every, loaded.1, loaded.2)
asks_to_run words held status schedules before now (inl (task.Fold list, loaded, done)) guest =
    absurd (not_of_fold status before now (subst (λ due. IsEndedSo due status before now) (ap (λ (p : Product). p.due) done.makes) done.ended) guest)
asks_to_run words held status schedules before now (inr (inl (inl six, idle))) guest = absurd (never_six status (guest_is_after status guest) six)
asks_to_run words held status schedules before now (inr (inl (inr first, idle))) guest = absurd (never_both status first (inr (guest_is_after status guest)))
asks_to_run words held status schedules before now (inr (inr out)) guest = absurd (never_six status (guest_is_after status guest) out.0)
