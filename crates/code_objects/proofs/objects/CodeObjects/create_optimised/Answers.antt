use Rattle.std.proofs.Common.{◌≤◌, ◌∙◌, ap, subst}
use Rattle.std.proofs.lemmas.Result.{err_from_is_err_and}
use Rattle.guest_program.specs.InlinedSize.{inlined_size}
use Rattle.code_event.specs.declared.layout.TheConstants.Layout.{MAX_ABOVE, MAX_SLOTS}
use Rattle.code_layout.specs.Layouts.{layout_to}
use Rattle.code_layout.specs.Sizes.{IsRefusedAs}
use Rattle.code_objects.specs.CodeObjects.{CodeParts, layout_of}
use Rattle.code_objects.proofs.objects.CodeObjects.create_optimised.Goals as goal

pub returns-in_err-layout-clause-refused : goal.returns-in_err-layout-clause-refused
returns-in_err-layout-clause-refused c =
    let p = err_from_is_err_and c.from_residual.result c.from_residual.ensures.1 in
    rw (p.1, p.2) (subst (λ (p : CodeParts). IsRefusedAs (inlined_size p.funcs MAX_ABOVE c.args.func.0) c.in_err-layout.field-0.0) c.self.view_is c.in_err-layout.ensures.refused)

pub create-requires-clause-layout : goal.create-requires-clause-layout
unfolding layout_of
create-requires-clause-layout c = c.in_ok-layout.ensures.layout ∙ ap (λ (p : CodeParts). layout_to p.funcs MAX_ABOVE c.args.func.0) c.self.view_is

pub returns-clause-small : goal.returns-clause-small
returns-clause-small c = subst (λ (p : CodeParts). inlined_size p.funcs MAX_ABOVE c.args.func.0 ≤ MAX_SLOTS) c.self.view_is c.in_ok-layout.ensures.small
