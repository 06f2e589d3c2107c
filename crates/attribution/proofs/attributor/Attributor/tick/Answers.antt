use Rattle.std.proofs.Common.{◌≡◌, List, ◌∷◌, [], ◌++◌, subst, refl, arith}
use Rattle.std.proofs.lemmas.Result.{on_ok_weaker}
use Rattle.code_event.specs.declared.tick.Item.{Item}
use Rattle.code_event.specs.declared.tick.Item.TheVariants as item
use Rattle.prof_base.specs.declared.ids.TheConstants.Micros.{MAX}
use Rattle.attribution.specs.Attribution.{AttributorParts, StandsFor}
use Rattle.attribution.proofs.Taking.{takes_tick}
use Rattle.attribution.proofs.attributor.Attributor.tick.Goals as goal

pub returns-clause-stands : goal.returns-clause-stands
returns-clause-stands c =
    let most : MAX ≡ 9007199254740991 = refl in
    on_ok_weaker c.tick.result
    (λ stands. subst (λ (old : AttributorParts). (items : List Item) → StandsFor old items → StandsFor (record { map = c.paths.new.map; book = c.tick.new.self }) (items ++ item.Tick c.args.tick.now ∷ [])) c.self.view_is
    (takes_tick c.self.inside.map c.paths.new.map c.self.inside.book c.tick.new.self c.args.tick.now c.in_ok-paths.paths c.in_ok-paths.ensures.leaf c.in_ok-paths.ensures.caller c.in_ok-paths.ensures.leaf_line
    c.paths.ensures.ranges c.paths.ensures.reasons stands (omega (arith, c.value.ensures.value, c.value.ensures.bound, most))))
    c.tick.ensures.stands
