-- What comes of what a command line asks for: the schedules that are returned, the files that go to the stream, the text that goes to `out`, and how it is due to end.
use Rattle.std.specs.Prelude.{◌≡◌, ℕ, List, [], ◌∷◌}
use Rattle.code_event.specs.ItemFile.{SessionFile, item_files}
use Rattle.guest_program.specs.declared.instr.Func.{Func}
use Rattle.isolate.specs.PlainFile.{plain_files}
use Rattle.item_text.specs.declared.items.ItemList.{ItemList}
use Rattle.run_schedule.specs.ScheduleParts.{ScheduleParts}
use Rattle.prof_top.specs.Ending.{due_of}
use Rattle.prof_top.specs.PrintedText.{printed_text, fold_text}
use Rattle.prof_top.specs.RunSchedule.{IsRunSchedule}
use Rattle.prof_top.specs.declared.ending.Ending.{Ending}
use Rattle.prof_top.specs.declared.ending.Ending.TheVariants.{Done}
use Rattle.prof_top.specs.declared.load.Task.{Task}
use Rattle.prof_top.specs.declared.load.Task.TheVariants as task

-- the schedules, the files in order, what is printed where the first of the files were delivered, and the ending where nothing goes wrong outside
pub record Product : Type 0 where
  pub schedules : List ScheduleParts
  pub files : List SessionFile
  pub text : List SessionFile → List ℕ
  pub due : Ending

-- `run`: the files of the run with this schedule
abbrev pub run_product : List Func → ScheduleParts → Product
run_product funcs schedule =
    record { schedules = schedule ∷ []; files = plain_files funcs schedule; text = printed_text funcs schedule; due = due_of schedule.entries }

-- `fold`: the files of the items
abbrev pub fold_product : ItemList → Product
fold_product list = record { schedules = []; files = item_files list.base list.items; text = fold_text list.items; due = Done }

-- what comes of it; of a run, by its schedule
abbrev pub Makes : Task → Product → Type 0
Makes (task.Run funcs options) product = (schedule : ScheduleParts) × IsRunSchedule funcs options schedule × (product ≡ run_product funcs schedule)
Makes (task.Fold list) product = product ≡ fold_product list

-- what comes of it may be due to end in this way
abbrev pub MayBeDue : Task → Ending → Type 0
MayBeDue task ending = (product : Product) × Makes task product × (product.due ≡ ending)
