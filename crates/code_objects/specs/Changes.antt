-- What becomes of code objects, of their ranges and of their space, where code is created, freed and compacted.
use Rattle.std.specs.Prelude.{◌≡◌, ℕ, ◌*◌, List, [], ◌∷◌, length, Bool, true, false, ◌&&◌, ◌==◌, Option, Some, None, option_map, find, if◌then◌else◌, IsSome}
use Rattle.std.specs.Option.{option_map_or}
use Rattle.code_event.specs.CodeMap.{after_events, range_at}
use Rattle.code_event.specs.Parts.{LayoutParts}
use Rattle.code_event.specs.declared.code_map.Range.{Range}
use Rattle.code_event.specs.declared.event.CodeEvent.{CodeEvent}
use Rattle.code_event.specs.declared.event.CodeEvent.TheVariants.{Create, Move, Delete}
use Rattle.code_event.specs.declared.layout.TheConstants.{SLOT_SIZE}
use Rattle.code_space.specs.Space.{IsLeastFit, inserted, without_range}
use Rattle.code_space.specs.declared.range.CodeMove.{CodeMove}
use Rattle.code_space.specs.declared.range.CodeRange.{CodeRange}
use Rattle.code_objects.specs.CodeObjects.{CodeParts, IsCode, LieAt, layout_of, start_at}
use Rattle.code_objects.specs.declared.name.CodeKind.{CodeKind}
use Rattle.code_objects.specs.declared.name.CodeKind.TheVariants.{Plain, Optimised}
use Rattle.code_objects.specs.declared.name.CodeName.{CodeName}

-- the two kinds are the same
abbrev pub same_kind : CodeKind → CodeKind → Bool
same_kind Plain Plain = true
same_kind Plain Optimised = false
same_kind Optimised Plain = false
same_kind Optimised Optimised = true

-- the two names are the same
abbrev pub same_name : CodeName → CodeName → Bool
same_name one other = one.func.0 == other.func.0 && same_kind one.kind other.kind

-- the code with this name starts there, or there is none, and all other code starts where it did
abbrev pub with_start : (CodeName → Option ℕ) → CodeName → Option ℕ → CodeName → Option ℕ
with_start starts name start other = if same_name name other then start else starts other

-- where the code starts that started here, after these moves of distinct starts
abbrev pub moved_by : List CodeMove → ℕ → ℕ
moved_by moves start = option_map_or (λ move. move.to) (find (λ move. move.from == start) moves) start

-- where all code starts after these moves
abbrev pub with_moves : (CodeName → Option ℕ) → List CodeMove → CodeName → Option ℕ
with_moves starts moves name = option_map (moved_by moves) (starts name)

-- the event of a move
abbrev pub move_event : CodeMove → CodeEvent
move_event move = Move move.from move.to

-- the bytes of a layout's code
abbrev pub code_size : LayoutParts → ℕ
code_size layout = SLOT_SIZE * length layout.slots

-- the range that code of this layout takes, where it starts here
abbrev pub space_of : ℕ → LayoutParts → CodeRange
space_of start layout = record { start = start; size = code_size layout }

-- the size of what starts at this address of a space
abbrev pub size_in : List CodeRange → ℕ → Option ℕ
size_in [] start = None
size_in (range ∷ space) start = if range.start == start then Some range.size else size_in space start

-- the size of what starts at this address, of the ranges of code events
abbrev pub size_at : List Range → ℕ → Option ℕ
size_at ranges start = option_map (λ range. range.size) (range_at ranges start)

-- the ranges start where those of the space do, and have their sizes
abbrev pub IsSpaceOf : List Range → List CodeRange → Type 0
IsSpaceOf ranges space = (start : ℕ) → size_at ranges start ≡ size_in space start

-- The ranges are those of the code that starts so, and are those of the space.
pub record IsStored (layouts : CodeName → LayoutParts) (starts : CodeName → Option ℕ) (ranges : List Range) (space : List CodeRange) : Type 0 where
  pub code : IsCode layouts starts ranges
  pub sizes : IsSpaceOf ranges space

-- there is code with this name
abbrev pub HasCode : CodeParts → CodeName → Type 0
HasCode parts name = IsSome (start_at parts.starts name)

-- all code but that of this name starts where it did
abbrev pub OthersStay : CodeParts → CodeParts → CodeName → Type 0
OthersStay old new name = (other : CodeName) → same_name name other ≡ false → start_at new.starts other ≡ start_at old.starts other

-- all code that was there starts where it did
abbrev pub CodeStays : CodeParts → CodeParts → Type 0
CodeStays old new = (name : CodeName) (start : ℕ) → start_at old.starts name ≡ Some start → start_at new.starts name ≡ Some start

-- whatever ranges the code lay at, it lies at those after these events
abbrev pub RangesFollow : CodeParts → CodeParts → List CodeEvent → Type 0
RangesFollow old new events = (ranges : List Range) → LieAt old ranges → LieAt new (after_events ranges events)

-- The event creates the code with this name, of which there was none, at the least address at which it fits. It starts there.
pub record IsCreation (old new : CodeParts) (name : CodeName) (event : CodeEvent) : Type 0 where
  pub none : start_at old.starts name ≡ None
  pub start : ℕ
  pub least : IsLeastFit old.space (code_size (layout_of old.funcs name)) start
  pub event_is : event ≡ Create start (layout_of old.funcs name)
  pub starts : start_at new.starts name ≡ Some start
  pub space : new.space ≡ inserted old.space (space_of start (layout_of old.funcs name))

-- What makes sure that there is code with this name: nothing changes where there was, else it is created.
abbrev pub MakesSure : CodeParts → CodeParts → CodeName → Option CodeEvent → Type 0
MakesSure old new name None = HasCode old name × (new ≡ old)
MakesSure old new name (Some event) = IsCreation old new name event

-- The code with this name is deleted where it started, and there is none with this name any more.
pub record IsDeletion (old new : CodeParts) (name : CodeName) (event : CodeEvent) : Type 0 where
  pub start : ℕ
  pub started : start_at old.starts name ≡ Some start
  pub event_is : event ≡ Delete start
  pub none : start_at new.starts name ≡ None
  pub space : new.space ≡ without_range old.space start
