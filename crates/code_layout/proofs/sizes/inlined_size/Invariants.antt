use Rattle.code_layout.specs.Sizes.{AreSizes}
use Rattle.code_layout.proofs.sizes.inlined_size.Given as goal

abbrev pub invariant-loop-depth : goal.invariant-loop-depth
invariant-loop-depth l = AreSizes l.funcs l._depth l.sizes.items
