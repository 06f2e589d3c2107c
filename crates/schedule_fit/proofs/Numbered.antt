-- The entries that fit, by their numbers.
use Rattle.std.proofs.Common.{◌≡◌, ℕ, zero, suc, ◌+◌, ◌<◌, List, [], ◌∷◌, length, drop, take, get_or, sym, subst, refl}
use Rattle.std.proofs.lemmas.List.{drop_more, take_more}
use Rattle.std.proofs.lemmas.Option.{get_or_from_slice_get, slice_get_within}
use Rattle.std.specs.List.{AllByRecursion, slice_get}
use Rattle.std.specs.Prelude.{◌≢◌, Result, Ok, Err, Some, IfErr}
use Rattle.code_event.proofs.EachElement.{all_pushed}
use Rattle.guest_program.specs.declared.instr.Func.{Func}
use Rattle.isolate.specs.Fits.{Fits, MayComeAbout}
use Rattle.run_schedule.specs.ScheduleParts.{ScheduleParts}
use Rattle.run_schedule.specs.declared.schedule.ScheduleEntry.{ScheduleEntry}
use Rattle.schedule_fit.specs.Unfits.{AllFit, IsUnfit}
use Rattle.schedule_fit.specs.declared.fitting.Unfit.{Unfit}
use Rattle.schedule_fit.specs.declared.fitting.Unfit.TheVariants as unfit

-- where the entry after the first ones fits too
pub fit_more : (funcs : List Func) (entries : List ScheduleEntry) (number : ℕ) (entry : ScheduleEntry) → number < length entries → entry ≡ get_or entries number entry
    → AllFit funcs (take number entries) → MayComeAbout funcs entry.step entry.what → AllFit funcs (take (number + 1) entries)
fit_more funcs entries number entry within is fit fits =
    subst (AllFit funcs) (sym (take_more entries number entry within))
    (all_pushed (λ (e : ScheduleEntry). MayComeAbout funcs e.step e.what) (take number entries) (get_or entries number entry) fit
    (subst (λ (e : ScheduleEntry). MayComeAbout funcs e.step e.what) is fits))

all_drop : {X : Type 0} (P : X → Type 0) (number : ℕ) (xs : List X) → AllByRecursion P xs → AllByRecursion P (drop number xs)
all_drop P zero xs all = all
all_drop P (suc n) [] all = tt
all_drop P (suc n) (x ∷ xs) all = all_drop P n xs all.1

all_at : {X : Type 0} (P : X → Type 0) (xs : List X) (number : ℕ) (x : X) → AllByRecursion P xs → slice_get xs number ≡ Some x → P x
all_at P xs number x all is =
    subst P (get_or_from_slice_get xs number x x is)
    (subst (AllByRecursion P) (drop_more xs number x (slice_get_within xs number x is)) (all_drop P number xs all)).0

not_all : (funcs : List Func) (entries : List ScheduleEntry) (why : Unfit) → IsUnfit funcs entries why → why ≢ unfit.Memory → AllFit funcs entries → ⊥
not_all funcs entries (unfit.At number) first other fit =
    first.unfit (all_at (λ (e : ScheduleEntry). MayComeAbout funcs e.step e.what) entries number first.entry fit first.there)
not_all funcs entries unfit.Memory said other fit = other refl

-- where some entry does not fit, the schedule does not
pub never_fits : {T : Type 0} (ran funcs : List Func) (entries : List ScheduleEntry) (schedule : ScheduleParts) (result : Result T Unfit) → ran ≡ funcs → entries ≡ schedule.entries
    → IfErr result (λ why. IsUnfit ran entries why) → IfErr result (λ why. why ≢ unfit.Memory → ¬ Fits funcs schedule)
never_fits ran funcs entries schedule (Ok done) same_funcs same_entries said = tt
never_fits ran funcs entries schedule (Err why) same_funcs same_entries said = λ other fits.
    not_all ran entries why said other
    (subst (λ (f : List Func). AllFit f entries) (sym same_funcs) (subst (λ (es : List ScheduleEntry). AllFit funcs es) (sym same_entries) fits))
