-- The table of inlined sizes, and when a layout is too large.
use Rattle.std.specs.Prelude.{◌≡◌, ℕ, ◌+◌, ◌<◌, List, length, slice_index, sum_by}
use Rattle.guest_program.specs.InlinedSize.{body_of, taken_in, inlined_size}
use Rattle.guest_program.specs.declared.instr.Func.{Func}
use Rattle.code_event.specs.declared.layout.TheConstants.Layout.{MAX_SLOTS}
use Rattle.code_layout.specs.declared.refused.LayoutRefused.{LayoutRefused}
use Rattle.code_layout.specs.declared.refused.LayoutRefused.TheVariants.{TooLarge, Memory}

-- a row of the table: the inlined size of each function to this depth, by its number
pub record AreSizes (funcs : List Func) (depth : ℕ) (sizes : List ℕ) : Type 0 where
  pub count : length sizes ≡ length funcs
  pub each : (number : ℕ) → slice_index sizes number ≡ inlined_size funcs depth number

-- the slots of a function, where those of each function that it inlines are in this row
abbrev pub size_by : List Func → List ℕ → ℕ → ℕ
size_by funcs sizes number = length (body_of funcs number) + sum_by (taken_in funcs (λ callee. slice_index sizes callee)) (body_of funcs number)

-- why a function of this inlined size has no layout
abbrev pub IsRefusedAs : ℕ → LayoutRefused → Type 0
IsRefusedAs size (TooLarge slots) = (slots ≡ size) × (MAX_SLOTS < size)
IsRefusedAs size Memory = Unit {0}
