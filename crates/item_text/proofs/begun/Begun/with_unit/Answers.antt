use Rattle.std.proofs.Common.{◌≡◌, [], ◌∷◌, ◌++◌, length, false, subst, sym}
use Rattle.item_text.specs.ItemLine.{IsParent}
use Rattle.item_text.specs.ItemRules.{BegunCode, is_none, unit_breaks_limit, units_above}
use Rattle.item_text.proofs.Above.{begun_with_unit}
use Rattle.item_text.proofs.begun.Begun.with_unit.Goals as goal

pub invariant_of-result : goal.invariant_of-result
invariant_of-result c =
    rw (c.in_ok-push-2.ensures.ok, c.in_ok-push.ensures.items)
    (begun_with_unit _ c.self.inside.above.items c.args.unit c.above-number.result c.self.invariant
    (subst (λ (code : BegunCode). unit_breaks_limit code c.args.unit ≡ false) (sym c.self.view_is) c.requires.limit)
    (subst (λ (code : BegunCode). IsParent (is_none code.units) c.args.unit.parent) (sym c.self.view_is) c.requires.parent)
    (subst (λ (code : BegunCode). c.above-number.result ≡ units_above (code.units ++ c.args.unit ∷ []) (length code.units)) (sym c.self.view_is) c.above-number.ensures))
