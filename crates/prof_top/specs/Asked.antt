-- The texts that a command line asks for, and what a depot whose files can be observed has under their names.
use Rattle.std.specs.Prelude.{◌≡◌, ℕ, List, [], ◌∷◌, Contains, Option, None, IfSome, IsSomeAnd}
use Rattle.std.specs.List.{AllByRecursion}
use Rattle.prof_outer.specs.Files.{FileMap, file_at}
use Rattle.guest_program.specs.Program.{IsProgram}
use Rattle.guest_program.specs.declared.instr.Func.{Func}
use Rattle.guest_text.specs.ProgramText.{Spells as SpellsProgram, IsRefusedAt as IsProgramRefusedAt}
use Rattle.guest_text.specs.declared.refused.ProgramCause.{ProgramCause}
use Rattle.item_text.specs.Items.{IsItemList, Spells, IsRefusedAt}
use Rattle.item_text.specs.declared.items.ItemList.{ItemList}
use Rattle.record_text.specs.declared.refused.LineCause.{LineCause}
use Rattle.prof_top.specs.Command.{Means}
use Rattle.prof_top.specs.declared.words.CommandLine.{CommandLine}
use Rattle.prof_top.specs.declared.words.CommandLine.TheVariants.{Run, Fold}

-- what a text has to be: a program, or an item list
pub data Kind : Type 0 where
  guest_program : Kind
  item_list : Kind

-- a text that is asked for
pub record Asked : Type 0 where
  pub kind : Kind
  pub name : List ℕ

abbrev pub asked_as : Kind → List ℕ → Asked
asked_as kind name = record { kind = kind; name = name }

-- the texts that a command line asks for, in the order of its words
abbrev pub asked : CommandLine → List Asked
asked (Run program every limits) = asked_as guest_program program ∷ []
asked (Fold items) = asked_as item_list items ∷ []

-- the text has a reading of this kind
abbrev pub HasReading : Kind → List ℕ → Type 0
HasReading guest_program text = (funcs : List Func) × IsProgram funcs × SpellsProgram text funcs
HasReading item_list text = (list : ItemList) × IsItemList list × Spells text list

-- where its files can be observed, the depot has none under the name
abbrev pub LacksFile : Option FileMap → List ℕ → Type 0
LacksFile held name = IfSome held (λ files. file_at files name ≡ None)

-- where its files can be observed, it has one under the name, and this holds of its text
abbrev pub Holds : Option FileMap → List ℕ → (List ℕ → Type 0) → Type 0
Holds held name P = IfSome held (λ files. IsSomeAnd (file_at files name) P)

-- what it has under the name cannot be read
abbrev pub HoldsUnreadable : Option FileMap → Asked → Type 0
HoldsUnreadable held text = Holds held text.name (λ bytes. ¬ HasReading text.kind bytes)

-- what it has under the name can be read
abbrev pub MayRead : Option FileMap → Asked → Type 0
MayRead held text = Holds held text.name (HasReading text.kind)

-- what it has under the name is no program, and its first fault is at this line and has this cause
abbrev pub HoldsProgramFault : Option FileMap → List ℕ → ℕ → ProgramCause → Type 0
HoldsProgramFault held name line cause = Holds held name (λ bytes. IsProgramRefusedAt bytes line cause)

-- what it has under the name is no item list, and its first fault is at this line and has this cause
abbrev pub HoldsFault : Option FileMap → List ℕ → ℕ → LineCause → Type 0
HoldsFault held name line cause = Holds held name (λ bytes. IsRefusedAt bytes line cause)

-- the words ask for a text of which this holds
abbrev pub AsksFor : List (List ℕ) → (Asked → Type 0) → Type 0
AsksFor words P = (line : CommandLine) × Means words line × (text : Asked) × Contains (asked line) text × P text

-- the same for a text of this kind
abbrev pub AsksForKind : List (List ℕ) → Kind → (Asked → Type 0) → Type 0
AsksForKind words kind P = AsksFor words (λ text. (text.kind ≡ kind) × P text)

-- each text that the words ask for can be read
abbrev pub MayReadAll : Option FileMap → List (List ℕ) → Type 0
MayReadAll held words = (line : CommandLine) → Means words line → AllByRecursion (MayRead held) (asked line)
