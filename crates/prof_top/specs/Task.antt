-- What a command line asks to be done, over the texts that it names.
use Rattle.std.specs.Prelude.{ℕ, ◌≡◌, ◌≤◌, List, Option}
use Rattle.guest_program.specs.Program.{IsProgram}
use Rattle.guest_text.specs.ProgramText.{Spells as SpellsProgram}
use Rattle.guest_program.specs.declared.instr.Func.{Func}
use Rattle.item_text.specs.Items.{IsItemList, Spells}
use Rattle.item_text.specs.declared.items.ItemList.{ItemList}
use Rattle.prof_base.specs.declared.interval.TheConstants.{MAX_INTERVAL}
use Rattle.run_schedule.specs.declared.limits.TheConstants.{MAX_BUDGET, MAX_ENTRIES, MIN_ENTRIES}
use Rattle.prof_outer.specs.Files.{FileMap}
use Rattle.prof_top.specs.Asked.{Holds}
use Rattle.prof_top.specs.Command.{Means, options_of}
use Rattle.prof_top.specs.declared.load.Task.{Task}
use Rattle.prof_top.specs.declared.load.Task.TheVariants as task
use Rattle.prof_top.specs.declared.words.CommandLine.TheVariants as line
use Rattle.prof_top.specs.declared.words.RunLimits.{RunLimits}
use Rattle.prof_top.specs.declared.words.RunOptions.{RunOptions}

-- the program that was read under a name: where the depot's files can be observed, the one that the text there spells
pub record IsProgramRead (held : Option FileMap) (name : List ℕ) (funcs : List Func) : Type 0 where
  pub rules : IsProgram funcs
  pub text : Holds held name (λ bytes. SpellsProgram bytes funcs)

-- the item list that was read under a name: where the depot's files can be observed, the one that the text there spells
pub record IsListRead (held : Option FileMap) (name : List ℕ) (list : ItemList) : Type 0 where
  pub rules : IsItemList list
  pub text : Holds held name (λ bytes. Spells bytes list)

-- the words ask for this to be done
abbrev pub IsLoaded : List (List ℕ) → Option FileMap → Task → Type 0
IsLoaded words held (task.Run funcs options) = (name : List ℕ) × (limits : RunLimits) × Means words (line.Run name options.every limits) × (options ≡ options_of options.every limits) × IsProgramRead held name funcs
IsLoaded words held (task.Fold list) = (name : List ℕ) × Means words (line.Fold name) × IsListRead held name list

-- this holds of the program that the words run and of how they run it
abbrev pub OfRun : List (List ℕ) → Option FileMap → (List Func → RunOptions → Type 0) → Type 0
OfRun words held P = (funcs : List Func) × (options : RunOptions) × IsLoaded words held (task.Run funcs options) × P funcs options

-- the numbers of a run are in their ranges
pub record AreOptions (options : RunOptions) : Type 0 where
  pub every_low : 1 ≤ options.every
  pub every_high : options.every ≤ MAX_INTERVAL
  pub budget_low : 1 ≤ options.budget
  pub budget_high : options.budget ≤ MAX_BUDGET
  pub entries_low : MIN_ENTRIES ≤ options.entries
  pub entries_high : options.entries ≤ MAX_ENTRIES

-- it can be done: a run's numbers are in their ranges, and the list keeps the rules
abbrev pub IsReady : Task → Type 0
IsReady (task.Run funcs options) = AreOptions options
IsReady (task.Fold list) = IsItemList list
