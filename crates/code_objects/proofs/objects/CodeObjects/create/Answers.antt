use Rattle.std.proofs.Common.{◌≡◌, ◌<◌, ◌++◌, length, take, drop, ap, sym, subst, ◌∙◌}
use Rattle.std.specs.Prelude.{Some, None}
use Rattle.code_event.specs.declared.event.CodeEvent.TheVariants.{Create}
use Rattle.code_objects.proofs.Codes.{codes_put}
use Rattle.code_objects.proofs.Stored.{IsChanged, creation, room}
use Rattle.code_space.specs.Space.{IsLeastFit, inserted}
use Rattle.code_objects.specs.Changes.{code_size, space_of}
use Rattle.code_objects.specs.CodeObjects.{CodeParts, layout_of, start_at}
use Rattle.code_objects.specs.declared.object.CodeObject.{CodeObject}
use Rattle.code_objects.proofs.objects.CodeObjects.create.Goals as goal

pub place_code-requires : goal.place_code-requires
place_code-requires c =
    let within = subst (λ (p : CodeParts). c.args.name.func.0 < length p.funcs) (sym c.self.view_is) c.requires.func in
    let none = subst (λ (p : CodeParts). start_at p.starts c.args.name ≡ None) (sym c.self.view_is) c.requires.none in
    record { room = room c.self.inside.program c.self.inside.codes.items c.self.inside.space c.args.name c.self.invariant within none (record { start = 0; layout = c.args.layout; places = c.args.places }) }

done : (c : goal.After-self-1)
    → IsChanged c.self.inside.program c.args.self.now c.args.name (Create c.in_ok-start.start c.in_ok-copy.copy) (Some c.in_ok-start.start)
    (take c.self.inside.codes.len (c.put_object.new.codes ++ drop (length c.put_object.new.codes) c.self.inside.codes.items)) c.place_code.new.space
done c =
    let object : CodeObject = record { start = c.in_ok-start.start; layout = c.args.layout; places = c.args.places } in
    creation c.self.inside.program c.self.inside.codes.items _ c.self.inside.space c.place_code.new.space c.args.self.now c.args.name c.in_ok-start.start object c.in_ok-copy.copy
    c.self.invariant c.self.view_is c.requires.func c.requires.none c.requires.layout c.requires.places
    c.in_ok-start.ensures.space c.in_ok-start.ensures.some c.in_ok-start.ensures.least.fits c.in_ok-copy.ensures
    (codes_put c.self.inside.codes.len c.args.name (Some object) c.put_object.new.codes c.deref_mut.result.now c.self.inside.codes.items c.deref_mut.ensures.value c.deref_mut.ensures.len c.put_object.ensures)
    c.in_ok-start.ensures.placed

pub invariant_of-self-2 : goal.invariant_of-self-2
invariant_of-self-2 c = (done c).objects

pub returns-clause-event : goal.returns-clause-event
returns-clause-event c = record {
  none = c.requires.none;
  start = c.in_ok-start.start;
  least = subst (λ (p : CodeParts). IsLeastFit p.space (code_size (layout_of c.args.self.now.funcs c.args.name)) c.in_ok-start.start) c.self.view_is
      (subst (λ l. IsLeastFit c.self.inside.space (code_size l) c.in_ok-start.start) c.requires.layout c.in_ok-start.ensures.least);
  event_is = ap (Create c.in_ok-start.start) (c.in_ok-copy.ensures ∙ c.requires.layout);
  starts = (done c).start_is;
  space = c.in_ok-start.ensures.placed ∙ ap (λ (p : CodeParts). inserted p.space (space_of c.in_ok-start.start c.args.layout)) c.self.view_is
      ∙ ap (λ l. inserted c.args.self.now.space (space_of c.in_ok-start.start l)) c.requires.layout;
}

pub returns-clause-others : goal.returns-clause-others
returns-clause-others c = (done c).others

pub returns-clause-ranges : goal.returns-clause-ranges
returns-clause-ranges c = (done c).ranges
