-- What has come out of a fold.
use Rattle.std.proofs.Common.{◌≡◌, refl, ℕ, List, [], ◌++◌, sym, subst}
use Rattle.std.specs.Prelude.{flat_map, Option, Result, IsErrOf}
use Rattle.code_event.specs.ItemFile.{SessionFile, item_files}
use Rattle.code_event.specs.declared.tick.Item.{Item}
use Rattle.prof_base.specs.Causes.{Rose}
use Rattle.item_fold.specs.Delivered.{Delivers}
use Rattle.item_fold.specs.declared.delivery.FileNote.{FileNote}
use Rattle.out_stream.specs.declared.stream.Undelivered.{Undelivered}
use Rattle.out_stream.specs.declared.stream.Undelivered.TheVariants as cut
use Rattle.out_stream.specs.Parts.{Parts}
use Rattle.run_schedule.specs.ScheduleParts.{ScheduleParts}
use Rattle.item_text.specs.declared.items.ItemList.{ItemList}
use Rattle.prof_top.specs.HandedOut.{Outlets, IsHandedOut, IsEndedSo, IsDelivered}
use Rattle.prof_top.specs.Outcome.{IsDone}
use Rattle.prof_top.specs.PrintedText.{file_line, items_line}
use Rattle.prof_top.specs.Product.{MayBeDue, fold_product}
use Rattle.prof_top.specs.declared.ending.Ending.{Ending}
use Rattle.prof_top.specs.declared.ending.Ending.TheVariants.{Done}
use Rattle.prof_top.specs.declared.load.Task.TheVariants as task

-- a delivery by the same notes
pub delivered_as : (files : List SessionFile) (answer : Result (Unit {0}) Undelivered) (notes notes' : List FileNote) (parts parts' : Option Parts) (aborts aborts' faults faults' : ℕ) → notes' ≡ notes
    → Delivers files answer notes parts parts' → (IsErrOf answer cut.Aborted → Rose aborts aborts') → (IsErrOf answer cut.Failed → Rose faults faults')
    → IsDelivered files answer notes' parts parts' aborts aborts' faults faults'
delivered_as files answer notes notes' parts parts' aborts aborts' faults faults' same delivers aborted failed =
    record { delivers = subst (λ n. Delivers files answer n parts parts') (sym same) delivers; aborted = aborted; failed = failed }

-- a fold was done
pub fold_done : (list : ItemList) (items : List Item) (schedules : List ScheduleParts) (status : ℕ) (lines : List ℕ) (before now : Outlets) → items ≡ list.items → schedules ≡ []
    → lines ≡ items_line items → IsHandedOut (item_files list.base items) (λ files. lines ++ flat_map file_line files) status before now × IsEndedSo Done status before now
    → IsDone (task.Fold list) status schedules before now
fold_done list items schedules status lines before now same none is out = record {
  product = fold_product list;
  makes = refl;
  schedules_are = none;
  handed = subst (λ its. IsHandedOut (item_files list.base its) (λ files. items_line its ++ flat_map file_line files) status before now) same
      (subst (λ l. IsHandedOut (item_files list.base items) (λ files. l ++ flat_map file_line files) status before now) is out.0);
  ended = out.1;
}

-- a fold is due to be done
pub fold_due : (list : ItemList) (ending : Ending) → ending ≡ Done → MayBeDue (task.Fold list) ending
fold_due list ending is = (fold_product list, refl, sym is)
