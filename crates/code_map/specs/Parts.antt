-- What a code map consists of.
use Rattle.std.specs.Prelude.{List}
use Rattle.code_event.specs.declared.code_map.Range.{Range}
use Rattle.code_event.specs.declared.seen.DeoptReason.{DeoptReason}

pub record MapParts : Type 0 where
  pub objects : List Range
  pub reasons : List DeoptReason
