use Rattle.std.proofs.Common.{◌≡◌, false, length}
use Rattle.prof_lines.specs.Quoted.{unquoted}
use Rattle.prof_lines.proofs.Unquoting.{after_read}
use Rattle.prof_lines.proofs.quotes.unquoted.Given as goal

abbrev pub invariant-loop-rest : goal.invariant-loop-rest
invariant-loop-rest l = after_read l.text.items (unquoted l.escaped l.rest) ≡ unquoted false l.bytes

abbrev pub decreases-loop-rest : goal.decreases-loop-rest
decreases-loop-rest l = length l.rest
