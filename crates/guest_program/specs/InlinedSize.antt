-- How many slots the code of a function has once calls of inline functions are inlined.
use Rattle.std.specs.Prelude.{ℕ, zero, suc, ◌+◌, List, [], length, Bool, false, Option, Some, None, sum_by, if◌then◌else◌}
use Rattle.std.specs.Option.{option_map_or}
use Rattle.std.specs.List.{slice_get}
use Rattle.guest_program.specs.declared.instr.Op.{Op}
use Rattle.guest_program.specs.declared.instr.Op.TheVariants.{Call}
use Rattle.guest_program.specs.declared.instr.Instr.{Instr}
use Rattle.guest_program.specs.declared.instr.Func.{Func}

-- the instructions of the function with this number
abbrev pub body_of : List Func → ℕ → List Instr
body_of funcs number = option_map_or (λ func. func.body) (slice_get funcs number) []

-- whether the function with this number is to be inlined where it is called
abbrev pub is_inline : List Func → ℕ → Bool
is_inline funcs number = option_map_or (λ func. func.inline) (slice_get funcs number) false

-- the function that an operation calls, if it calls one
abbrev pub called : Op → Option ℕ
called (Call func) = Some func.0
called other = None

-- what an instruction adds to the slots besides its own: the size of the function that it calls, where that is inlined
abbrev pub taken_in : List Func → (ℕ → ℕ) → Instr → ℕ
taken_in funcs size instr = option_map_or (λ number. if is_inline funcs number then size number else 0) (called instr.op) 0

-- the slots of the function with this number, where calls are inlined to the depth deep
abbrev pub inlined_size : List Func → ℕ → ℕ → ℕ
inlined_size funcs zero number = length (body_of funcs number)
inlined_size funcs (suc deep) number = length (body_of funcs number) + sum_by (taken_in funcs (λ other. inlined_size funcs deep other)) (body_of funcs number)
