-- What a port may command.
use Rattle.std.specs.Prelude.{◌≡◌, ℕ, Option, Some}
use Rattle.code_event.specs.declared.event.Command.{Command}
use Rattle.code_event.specs.declared.event.Command.TheVariants.{Start}

-- a start has the port that gave it
abbrev pub IsOfPort : ℕ → Option Command → Type 0
IsOfPort port (Some (Start options)) = options.port ≡ port
IsOfPort port other = Unit {0}
