-- What the end of work names.
use Rattle.std.proofs.Common.{◌≡◌, ℕ, List, ap, sym, ◌∙◌}
use Rattle.std.specs.Prelude.{Option}
use Rattle.prof_outer.specs.Files.{FileMap}
use Rattle.prof_top.specs.Ending.{IsDue, IsWorkEnding}
use Rattle.prof_top.specs.Product.{Product, MayBeDue}
use Rattle.prof_top.specs.Said.{EndsSo, IsNamed}
use Rattle.prof_top.specs.Task.{IsLoaded}
use Rattle.prof_top.specs.declared.ending.Ending.{Ending}
use Rattle.prof_top.specs.declared.ending.Ending.TheVariants.{Done, CannotWrite, Memory, Trapped, BudgetSpent, ScheduleFull, Aborted}
use Rattle.prof_top.specs.declared.load.Task.{Task}
use Rattle.prof_top.specs.declared.load.Task.TheVariants as task

-- a run that was loaded may come to this end, which no fold is due to
ends_so : (words : List (List ℕ)) (held : Option FileMap) (t : Task) (ending : Ending) → IsLoaded words held t → MayBeDue t ending → (Done ≡ ending → ⊥) → EndsSo words held ending
ends_so words held (task.Run funcs options) ending loaded may other =
    (funcs, options, loaded, (may.1.0, may.1.1, sym (ap (λ (p : Product). p.due) may.1.2) ∙ may.2))
ends_so words held (task.Fold list) ending loaded may other = absurd (other (sym (ap (λ (p : Product). p.due) may.1) ∙ may.2))

-- the end of work is named as its line of error says
pub named_at_end : (words : List (List ℕ)) (held : Option FileMap) (t : Task) (ending : Ending) → IsLoaded words held t → IsWorkEnding ending → (IsDue ending → MayBeDue t ending)
    → IsNamed words held ending
named_at_end words held t Done loaded ends may = tt
named_at_end words held t CannotWrite loaded ends may = tt
named_at_end words held t Memory loaded ends may = tt
named_at_end words held t Aborted loaded ends may = tt
named_at_end words held t (Trapped trap step) loaded ends may = ends_so words held t (Trapped trap step) loaded (may tt) (λ same. absurd (cc same))
named_at_end words held t (BudgetSpent steps) loaded ends may = ends_so words held t (BudgetSpent steps) loaded (may tt) (λ same. absurd (cc same))
named_at_end words held t ScheduleFull loaded ends may = ends_so words held t ScheduleFull loaded (may tt) (λ same. absurd (cc same))
named_at_end words held t ending loaded ends may = absurd ends
