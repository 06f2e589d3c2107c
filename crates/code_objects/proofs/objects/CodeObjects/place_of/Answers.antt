use Rattle.std.proofs.Common.{◌≡◌, ap, ◌∙◌, sym}
use Rattle.std.specs.Prelude.{Some}
use Rattle.std.specs.Option.{option_copied}
use Rattle.code_layout.specs.Laws.{slot_of}
use Rattle.code_objects.specs.CodeObjects.{CodeParts, layout_of}
use Rattle.code_objects.specs.Objects.{object_at}
use Rattle.code_objects.proofs.objects.CodeObjects.place_of.Goals as goal

pub place_of-requires : goal.place_of-requires
place_of-requires c =
    let found : object_at c.self.inside.codes.items c.args.name ≡ Some c.unwrap.result.now =
    ap (λ cs. object_at cs c.args.name) (sym c.deref.ensures.value) ∙ sym c.object_at.ensures ∙ ap option_copied c.unwrap.ensures in
    record { places = (c.self.invariant.objects c.args.name c.unwrap.result.now found).places }

pub returns : goal.returns
returns c =
    let found : object_at c.self.inside.codes.items c.args.name ≡ Some c.unwrap.result.now =
    ap (λ cs. object_at cs c.args.name) (sym c.deref.ensures.value) ∙ sym c.object_at.ensures ∙ ap option_copied c.unwrap.ensures in
    c.place_of.ensures
    ∙ ap (λ l. slot_of l c.args.unit c.args.index) ((c.self.invariant.objects c.args.name c.unwrap.result.now found).layout ∙ ap (λ (p : CodeParts). layout_of p.funcs c.args.name) c.self.view_is)
