use Rattle.std.proofs.Common.{sym, subst}
use Rattle.code_objects.proofs.Stored.{stored_at}
use Rattle.code_objects.specs.Changes.{IsSpaceOf}
use Rattle.code_objects.specs.CodeObjects.{CodeParts, LieAt}
use Rattle.code_objects.proofs.objects.CodeObjects.ranges.Goals as goal

pub returns-clause-code : goal.returns-clause-code
returns-clause-code c = λ ranges code.
    subst (λ (p : CodeParts). IsSpaceOf ranges p.space) c.self.view_is
    (stored_at c.self.inside.program c.self.inside.codes.items c.self.inside.space ranges c.self.invariant (subst (λ p. LieAt p ranges) (sym c.self.view_is) code)).sizes
