use Rattle.std.proofs.Common.{refl}
use Rattle.std.specs.Fmt.{digits}
use Rattle.json.specs.Print.{escape_byte}
use Rattle.code_event.proofs.examples.overlap_takes_a_function_away.Goals as goal

pub returns : goal.returns
unfolding digits escape_byte
returns c = refl
