-- The code objects of functions, as the fields of `CodeObjects` hold them, and how they agree with the program and the space.
use Rattle.std.specs.Prelude.{◌≡◌, ℕ, zero, suc, ◌+◌, ◌≤◌, List, [], ◌∷◌, length, map, Option, Some, None, option_map, ◌&&◌, ◌==◌, nat_lt, if◌then◌else◌}
use Rattle.std.specs.Option.{option_and_then}
use Rattle.std.specs.List.{slice_get}
use Rattle.guest_program.specs.declared.instr.Func.{Func}
use Rattle.guest_program.specs.declared.program.TheConstants.Program.{MAX_FUNCS}
use Rattle.code_event.specs.Parts.{LayoutParts}
use Rattle.code_event.specs.declared.code_map.Range.{Range}
use Rattle.code_layout.specs.Laws.{slot_of}
use Rattle.code_layout.specs.Places.{HasPlaces}
use Rattle.code_space.specs.declared.range.CodeMove.{CodeMove}
use Rattle.code_space.specs.declared.range.CodeRange.{CodeRange}
use Rattle.code_objects.specs.Changes.{IsStored, moved_by}
use Rattle.code_objects.specs.CodeObjects.{FuncStarts, layout_of, start_at}
use Rattle.code_objects.specs.declared.func_code.FuncCode.{FuncCode}
use Rattle.code_objects.specs.declared.name.CodeKind.{CodeKind}
use Rattle.code_objects.specs.declared.name.CodeKind.TheVariants.{Plain, Optimised}
use Rattle.code_objects.specs.declared.name.CodeName.{CodeName}
use Rattle.code_objects.specs.declared.object.CodeObject.{CodeObject}
use Rattle.code_objects.specs.declared.object.Places.{Places}
use Rattle.code_objects.specs.declared.object.Places.TheVariants.{Indices, Table}

-- the code object of a kind
abbrev pub object_in : CodeKind → FuncCode → Option CodeObject
object_in Plain code = code.plain
object_in Optimised code = code.optimised

-- the code object with this name
abbrev pub object_at : List FuncCode → CodeName → Option CodeObject
object_at codes name = option_and_then (object_in name.kind) (slice_get codes name.func.0)

-- a function without code
abbrev pub no_code : FuncCode
no_code = record { plain = None; optimised = None }

-- where an object starts, if it is there
abbrev pub start_of : Option CodeObject → Option ℕ
start_of object = option_map (λ (o : CodeObject). o.start) object

-- where the code objects of a function start
abbrev pub func_starts : FuncCode → FuncStarts
func_starts code = record { plain = start_of code.plain; optimised = start_of code.optimised }

-- the same, of each function
abbrev pub starts_of : List FuncCode → List FuncStarts
starts_of codes = map func_starts codes

-- the code of a function with this object of a kind, or with none
abbrev pub code_with : CodeKind → Option CodeObject → FuncCode → FuncCode
code_with Plain object code = record { plain = object; optimised = code.optimised }
code_with Optimised object code = record { plain = code.plain; optimised = object }

-- the functions, where the one with this number has this object of a kind, or none
abbrev pub with_object_in : CodeKind → Option CodeObject → List FuncCode → ℕ → List FuncCode
with_object_in kind object [] number = []
with_object_in kind object (code ∷ codes) zero = code_with kind object code ∷ codes
with_object_in kind object (code ∷ codes) (suc number) = code ∷ with_object_in kind object codes number

-- the functions, where the code with this name has this object, or there is none
abbrev pub with_object : List FuncCode → CodeName → Option CodeObject → List FuncCode
with_object codes name object = with_object_in name.kind object codes name.func.0

-- the move, if there is one that begins here
abbrev pub if_from : ℕ → Option CodeMove → Option CodeMove
if_from start move = option_and_then (λ m. if m.from == start then Some m else None) move

-- the object starts where these moves lead
abbrev pub object_moved : List CodeMove → CodeObject → CodeObject
object_moved moves object = record object { start = moved_by moves object.start }

-- the code objects of a function start where these moves lead
abbrev pub code_moved : List CodeMove → FuncCode → FuncCode
code_moved moves code = record { plain = option_map (object_moved moves) code.plain; optimised = option_map (object_moved moves) code.optimised }

-- the place of the slot of a unit and an index, where there is one unit
abbrev pub index_of : LayoutParts → ℕ → ℕ → Option ℕ
index_of layout unit index = if unit == 0 && nat_lt index (length layout.slots) then Some index else None

-- So are the places of the layout's slots found.
abbrev pub ArePlaces : Places → LayoutParts → Type 0
ArePlaces Indices layout = (unit index : ℕ) → slot_of layout unit index ≡ index_of layout unit index
ArePlaces (Table table) layout = HasPlaces table layout

-- The object has the layout of the code with this name, and finds the places of its slots.
pub record IsObject (funcs : List Func) (name : CodeName) (object : CodeObject) : Type 0 where
  pub layout : object.layout ≡ layout_of funcs name
  pub places : ArePlaces object.places object.layout

-- 1 for an object, 0 for none
abbrev pub count_of : Option CodeObject → ℕ
count_of None = 0
count_of (Some object) = 1

-- how many objects the functions have
abbrev pub object_count : List FuncCode → ℕ
object_count [] = 0
object_count (code ∷ codes) = count_of code.plain + count_of code.optimised + object_count codes

-- These are the code objects of a program, and the space in which they lie. Each range of the space is that of one object.
pub record AreObjects (funcs : List Func) (codes : List FuncCode) (space : List CodeRange) : Type 0 where
  pub few : length funcs ≤ MAX_FUNCS
  pub each_func : length codes ≡ length funcs
  pub objects : (name : CodeName) (object : CodeObject) → object_at codes name ≡ Some object → IsObject funcs name object
  -- there are ranges of code events that are those of the objects and those of the space
  pub ranges : List Range
  pub stored : IsStored (layout_of funcs) (start_at (starts_of codes)) ranges space
  pub count : length space ≡ object_count codes
