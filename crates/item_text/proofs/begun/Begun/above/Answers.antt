use Rattle.std.proofs.Common.{◌≡◌, ◌+◌, [], ◌∷◌, ◌++◌, length, false, subst, sym}
use Rattle.item_text.specs.ItemRules.{BegunCode, is_late_parent, units_above}
use Rattle.item_text.proofs.Above.{above_by, parent_before}
use Rattle.item_text.proofs.begun.Begun.above.Goals as goal

pub returns-in-Some : goal.returns-in-Some
returns-in-Some c =
    let late : is_late_parent (record { start = c.self.inside.start; units = c.self.inside.units; slots = c.self.inside.slots }) c.args.unit.now ≡ false =
    subst (λ (code : BegunCode). is_late_parent code c.args.unit.now ≡ false) (sym c.self.view_is) c.requires in
    subst (λ (code : BegunCode). c.index.result.now + 1 ≡ units_above (code.units ++ c.args.unit.now ∷ []) (length code.units)) c.self.view_is
    (above_by c.self.inside.units c.self.inside.above.items c.args.unit.now c.in-Some.site c.from.result c.index.result.now c.in-Some.is c.self.invariant.0.parents c.self.invariant.1
    (parent_before (length c.self.inside.units) c.args.unit.now.parent c.in-Some.site c.in-Some.is late) c.from.ensures c.index.ensures)
