use Rattle.std.proofs.Common.{◌∙◌, sym, ap, ◌+◌, arith}
use Rattle.reference_profile.proofs.UnitsAbove.{with_above, with_above_some}
use Rattle.reference_profile.proofs.symbolizer.push_units_above.Goals as goal

pub loop-passed-preserved : goal.loop-passed-preserved
loop-passed-preserved c =
    ap (λ frames. with_above frames c.args.layout.now (c.loop-passed._passed + 1) c.in-Some.site.unit) c.in_ok-push_unit-in-Some.ensures
    ∙ sym (with_above_some c.loop-passed.frames c.args.layout.now c.loop-passed._passed c.loop-passed.below c.in-Some.site (omega arith) (sym c.in-Some.ensures))
    ∙ c.loop-passed.invariant
