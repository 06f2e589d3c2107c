-- The parts of a layout.
use Rattle.std.specs.Prelude.{List}
use Rattle.code_event.specs.declared.layout.Unit.{Unit as CodeUnit}
use Rattle.code_event.specs.declared.layout.Slot.{Slot}

pub record LayoutParts : Type 0 where
  pub units : List CodeUnit
  pub slots : List Slot
