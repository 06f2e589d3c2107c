-- When a call may end in each way.
use Rattle.std.specs.Prelude.{◌≡◌, ℕ, ◌⊎◌, List, Option}
use Rattle.std.specs.List.{AllByRecursion}
use Rattle.prof_base.specs.Causes.{Rose}
use Rattle.prof_outer.specs.Files.{FileMap}
use Rattle.prof_top.specs.Asked.{Asked, asked, guest_program, item_list, LacksFile, HoldsUnreadable, HoldsFault, HoldsProgramFault, MayRead, AsksFor, AsksForKind}
use Rattle.prof_top.specs.Command.{IsCommand, Means}
use Rattle.prof_top.specs.declared.words.CommandLine.{CommandLine}
use Rattle.prof_top.specs.declared.ending.Ending.{Ending}
use Rattle.prof_top.specs.declared.ending.Ending.TheVariants.{Done, Usage, ProgramRefused, Missing, CannotRead, CannotWrite, Memory, Trapped, BudgetSpent, ItemsRefused, ScheduleFull, Aborted}
use Rattle.prof_top.specs.declared.load.Unread.{Unread}
use Rattle.prof_top.specs.declared.load.Unread.TheVariants as unread

-- what can be observed of the objects that were handed in, at one moment
pub record Outside : Type 0 where
  pub held : Option FileMap
  pub misses : ℕ
  pub read_faults : ℕ
  pub aborts : ℕ
  pub stream_faults : ℕ
  pub out_faults : ℕ
  pub write_faults : ℕ

-- an `Outside` from its parts
abbrev pub outside : Option FileMap → ℕ → ℕ → ℕ → ℕ → ℕ → ℕ → Outside
outside held misses read_faults aborts stream_faults out_faults write_faults =
    record {
      held = held;
      misses = misses;
      read_faults = read_faults;
      aborts = aborts;
      stream_faults = stream_faults;
      out_faults = out_faults;
      write_faults = write_faults;
    }

-- why a text was not read under a name, by the files and by two counts before and now
abbrev pub IsUnreadAs : Option FileMap → Asked → ℕ → ℕ → ℕ → ℕ → Unread → Type 0
IsUnreadAs held text misses misses' faults faults' unread.Missing = LacksFile held text.name × Rose misses misses'
IsUnreadAs held text misses misses' faults faults' unread.CannotRead = Rose faults faults'
IsUnreadAs held text misses misses' faults faults' (unread.ProgramRefused line cause) =
    (text.kind ≡ guest_program) × HoldsUnreadable held text × HoldsProgramFault held text.name line cause
IsUnreadAs held text misses misses' faults faults' (unread.ItemsRefused line cause) =
    (text.kind ≡ item_list) × HoldsUnreadable held text × HoldsFault held text.name line cause
IsUnreadAs held text misses misses' faults faults' unread.Memory = Unit {0}

-- the words ask for texts that can all be read
abbrev pub IsReadable : List (List ℕ) → Option FileMap → Type 0
IsReadable words held = (line : CommandLine) × Means words line × AllByRecursion (MayRead held) (asked line)

-- why a call ended before its work, by the files and by two counts before and now
abbrev pub IsStoppedAs : List (List ℕ) → Option FileMap → ℕ → ℕ → ℕ → ℕ → Ending → Type 0
IsStoppedAs words held misses misses' faults faults' Usage = ¬ IsCommand words
IsStoppedAs words held misses misses' faults faults' (ProgramRefused name line cause) = AsksForKind words guest_program (HoldsUnreadable held)
IsStoppedAs words held misses misses' faults faults' (ItemsRefused line cause) = AsksForKind words item_list (HoldsUnreadable held)
IsStoppedAs words held misses misses' faults faults' (Missing name) = AsksFor words (λ text. LacksFile held text.name) × Rose misses misses'
IsStoppedAs words held misses misses' faults faults' (CannotRead name) = IsCommand words × Rose faults faults'
IsStoppedAs words held misses misses' faults faults' Memory = Unit {0}
IsStoppedAs words held misses misses' faults faults' Done = ⊥
IsStoppedAs words held misses misses' faults faults' CannotWrite = ⊥
IsStoppedAs words held misses misses' faults faults' (Trapped trap step) = ⊥
IsStoppedAs words held misses misses' faults faults' (BudgetSpent steps) = ⊥
IsStoppedAs words held misses misses' faults faults' ScheduleFull = ⊥
IsStoppedAs words held misses misses' faults faults' Aborted = ⊥

-- why a call ended in this way
abbrev pub IsEndedAs : List (List ℕ) → Outside → Outside → Ending → Type 0
IsEndedAs words before now Done = IsReadable words before.held
IsEndedAs words before now (Trapped trap step) = IsReadable words before.held
IsEndedAs words before now (BudgetSpent steps) = IsReadable words before.held
IsEndedAs words before now ScheduleFull = IsReadable words before.held
IsEndedAs words before now CannotWrite =
    IsReadable words before.held × (Rose before.stream_faults now.stream_faults ⊎ (Rose before.out_faults now.out_faults ⊎ Rose before.write_faults now.write_faults))
IsEndedAs words before now Aborted = IsReadable words before.held × Rose before.aborts now.aborts
IsEndedAs words before now other = IsStoppedAs words before.held before.misses now.misses before.read_faults now.read_faults other
