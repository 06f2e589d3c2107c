use Rattle.std.proofs.Common.{◌≡◌, take, map}
use Rattle.code_event.specs.Tree.{hits_at}
use Rattle.reference_profile.proofs.tree.line_ticks.Given as goal

abbrev pub invariant-loop-line : goal.invariant-loop-line
invariant-loop-line l = l.ticks ≡ map (λ line. record { line = line; ticks = hits_at l.visits l.node line }) (take l.line-index l.line-items)
