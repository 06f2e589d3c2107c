use Rattle.std.proofs.Common.{◌≡◌, length, drop}
use Rattle.code_layout.specs.Layouts.{joined, expanded_from, inlined_at, expanded}
use Rattle.code_layout.proofs.parts.Parts.+expand.Given as goal

abbrev pub decreases-expand : goal.decreases-expand
decreases-expand l = l.depth

abbrev pub invariant-loop-index : goal.invariant-loop-index
invariant-loop-index l =
    joined l.self (expanded_from (inlined_at l.funcs l.depth) l.unit (length l.self.units) l.index (drop l.index l.body)) ≡ joined l.initial.self (expanded l.funcs l.depth l.fn.func.0 l.unit)
