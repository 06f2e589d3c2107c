use Rattle.std.proofs.Common.{◌≡◌, ap, ◌∙◌, sym, subst, Some}
use Rattle.code_objects.proofs.Codes.{start_at-object}
use Rattle.code_objects.specs.CodeObjects.{CodeParts, start_at}
use Rattle.code_objects.specs.Objects.{object_at, start_of, starts_of}
use Rattle.code_objects.proofs.Stored.{code_ends, func_within}
use Rattle.code_objects.proofs.objects.CodeObjects.start_of.Goals as goal

pub returns-in-Some-clause-within : goal.returns-in-Some-clause-within
returns-in-Some-clause-within c = func_within c.self.inside.program c.self.inside.codes.items c.self.inside.space c.args.self.now c.args.name c.self.invariant c.self.view_is

pub returns-in-None-clause-within : goal.returns-in-None-clause-within
returns-in-None-clause-within c = func_within c.self.inside.program c.self.inside.codes.items c.self.inside.space c.args.self.now c.args.name c.self.invariant c.self.view_is

pub returns-in-Some-clause-ends : goal.returns-in-Some-clause-ends
returns-in-Some-clause-ends c =
    let found : start_at (starts_of c.self.inside.codes.items) c.args.name ≡ Some c.in-Some.object.now.start =
    start_at-object c.self.inside.codes.items c.args.name ∙ ap (λ codes. start_of (object_at codes c.args.name)) (sym c.deref.ensures.value) ∙ ap start_of (sym c.in-Some.ensures) in
    code_ends c.self.inside.program c.self.inside.codes.items c.self.inside.space c.args.self.now c.args.name c.in-Some.object.now.start c.self.invariant c.self.view_is
    c.as_slice-ranges.ensures.space (subst (λ (p : CodeParts). start_at p.starts c.args.name ≡ Some c.in-Some.object.now.start) c.self.view_is found)
