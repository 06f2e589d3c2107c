use Rattle.std.proofs.Common.{◌+◌, length, sym, subst, ap, ◌∙◌}
use Rattle.std.specs.Prelude.{IsSome}
use Rattle.code_space.specs.Space.{IsSpace, range_at}
use Rattle.code_space.proofs.Freeing.{fewer, space_without}
use Rattle.code_space.proofs.space.CodeSpace.free.Goals as goal

pub invariant_of-self : goal.invariant_of-self
invariant_of-self c =
    subst IsSpace (sym c.remove_range.ensures) (space_without c.args.start c.self.inside.ranges.items c.self.invariant (subst (λ rs. IsSome (range_at rs c.args.start)) (sym c.self.view_is) c.requires.there))

pub returns-clause-fewer : goal.returns-clause-fewer
returns-clause-fewer c =
    ap (λ rs. length rs + 1) c.remove_range.ensures
    ∙ fewer c.args.start c.self.inside.ranges.items c.self.invariant (subst (λ rs. IsSome (range_at rs c.args.start)) (sym c.self.view_is) c.requires.there)
    ∙ ap length c.self.view_is
