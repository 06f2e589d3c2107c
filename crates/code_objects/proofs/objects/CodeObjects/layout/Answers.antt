use Rattle.std.specs.Prelude.{Some, None}
use Rattle.code_objects.proofs.Stored.{layout_found}
use Rattle.code_objects.proofs.objects.CodeObjects.layout.Goals as goal

pub returns-in-Some : goal.returns-in-Some
returns-in-Some c =
    layout_found c.self.inside.program c.self.inside.codes.items c.deref.result.now c.self.inside.space c.args.self.now c.args.name (Some c.in-Some.object.now) c.self.invariant c.self.view_is c.deref.ensures.value c.in-Some.ensures

pub returns-in-None : goal.returns-in-None
returns-in-None c =
    layout_found c.self.inside.program c.self.inside.codes.items c.deref.result.now c.self.inside.space c.args.self.now c.args.name None c.self.invariant c.self.view_is c.deref.ensures.value c.in-None.ensures
