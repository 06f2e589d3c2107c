-- Frames in the code of a small program.
use Rattle.std.specs.Prelude.{ℕ, Option, Some, if◌then◌else◌}
use Rattle.code_objects.specs.declared.name.CodeKind.TheVariants.{Plain, Optimised}
use Rattle.code_objects.specs.declared.name.CodeName.{CodeName}
use Rattle.plain_machine.specs.Examples.{func}
use Rattle.guest_stack.specs.Stack.{is_optimised}
use Rattle.guest_stack.specs.declared.stack.CodeFrame.{CodeFrame}

-- the plain code of `main`, at its call of `a`
abbrev pub main_at_call : CodeFrame
main_at_call = record { code = record { func = func 0; kind = Plain }; slot = 1 }

-- The optimised code of `a`, in which `b` is inlined, and in that `c`, at the first slot of `c`. The program is `chained`, of
-- the examples of layouts.
abbrev pub three_inlined : CodeFrame
three_inlined = record { code = record { func = func 1; kind = Optimised }; slot = 2 }

-- plain code starts at 8192, and optimised code at 4096
abbrev pub starts_by_kind : CodeName → Option ℕ
starts_by_kind code = Some (if is_optimised code.kind then 4096 else 8192)
