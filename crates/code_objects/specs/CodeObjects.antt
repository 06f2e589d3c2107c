-- The code objects of a program: which functions have code of which kind, where it starts, and how that agrees with the ranges that code events make.
use Rattle.std.specs.Prelude.{◌≡◌, ℕ, List, Option, Some}
use Rattle.std.specs.Option.{option_and_then}
use Rattle.std.specs.List.{slice_get, AllByRecursion}
use Rattle.prof_base.specs.declared.ids.FuncId.{FuncId}
use Rattle.guest_program.specs.declared.instr.Func.{Func}
use Rattle.code_event.specs.CodeMap.{range_at, range_of}
use Rattle.code_event.specs.Parts.{LayoutParts}
use Rattle.code_event.specs.declared.code_map.Range.{Range}
use Rattle.code_event.specs.declared.layout.TheConstants.Layout.{MAX_ABOVE}
use Rattle.code_layout.specs.Layouts.{layout_to}
use Rattle.code_space.specs.declared.range.CodeRange.{CodeRange}
use Rattle.code_objects.specs.declared.name.CodeKind.{CodeKind}
use Rattle.code_objects.specs.declared.name.CodeKind.TheVariants.{Plain, Optimised}
use Rattle.code_objects.specs.declared.name.CodeName.{CodeName}

-- how deep calls are inlined in code of a kind
abbrev pub depth_of : CodeKind → ℕ
depth_of Plain = 0
depth_of Optimised = MAX_ABOVE

-- the layout of the code with this name
unfoldable pub layout_of : List Func → CodeName → LayoutParts
layout_of funcs name = layout_to funcs (depth_of name.kind) name.func.0

-- the name of a function's plain code
abbrev pub plain_name : FuncId → CodeName
plain_name func = record { func = func; kind = Plain }

-- the name of a function's optimised code
abbrev pub optimised_name : FuncId → CodeName
optimised_name func = record { func = func; kind = Optimised }

-- where the code objects of a function start, of each kind that it has
pub record FuncStarts : Type 0 where
  pub plain : Option ℕ
  pub optimised : Option ℕ

-- The functions of the program, where the code objects of each start, and the space in which these lie.
pub record CodeParts : Type 0 where
  pub funcs : List Func
  pub starts : List FuncStarts
  pub space : List CodeRange

-- where the code object of a kind starts, if there is one
abbrev pub start_in : CodeKind → FuncStarts → Option ℕ
start_in Plain starts = starts.plain
start_in Optimised starts = starts.optimised

-- where the code with this name starts, if there is such code
abbrev pub start_at : List FuncStarts → CodeName → Option ℕ
start_at starts name = option_and_then (start_in name.kind) (slice_get starts name.func.0)

-- The ranges are those of the code that starts so, and of nothing else.
pub record IsCode (layouts : CodeName → LayoutParts) (starts : CodeName → Option ℕ) (ranges : List Range) : Type 0 where
  pub there : (name : CodeName) (start : ℕ) → starts name ≡ Some start → range_at ranges start ≡ Some (range_of start (layouts name))
  pub only : AllByRecursion (λ range. (name : CodeName) × (starts name ≡ Some range.start) × (range ≡ range_of range.start (layouts name))) ranges
  pub apart : (one other : CodeName) (start : ℕ) → starts one ≡ Some start → starts other ≡ Some start → one ≡ other

-- the code objects lie at these ranges, of which each holds one of them
abbrev pub LieAt : CodeParts → List Range → Type 0
LieAt parts ranges = IsCode (layout_of parts.funcs) (start_at parts.starts) ranges
