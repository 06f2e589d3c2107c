use Rattle.std.proofs.Common.{◌∙◌, ap}
use Rattle.code_layout.specs.Layouts.{layout_to}
use Rattle.code_objects.proofs.PlainPlaces.{are_indices, is_layout}
use Rattle.code_objects.specs.CodeObjects.{CodeParts, layout_of}
use Rattle.code_objects.proofs.objects.CodeObjects.ensure_plain.Goals as goal

pub create-requires-clause-layout : goal.create-requires-clause-layout
unfolding layout_of
create-requires-clause-layout c =
    is_layout c.self.inside.program c.args.func.0 c.in_ok-layout.layout c.in_ok-layout.ensures ∙ ap (λ (p : CodeParts). layout_to p.funcs 0 c.args.func.0) c.self.view_is

pub create-requires-clause-places : goal.create-requires-clause-places
create-requires-clause-places c = are_indices c.self.inside.program c.args.func.0 c.in_ok-layout.layout c.in_ok-layout.ensures
