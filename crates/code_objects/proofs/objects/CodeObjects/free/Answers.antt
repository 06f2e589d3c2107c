use Rattle.std.proofs.Common.{◌≡◌, ◌++◌, length, take, drop, ◌∙◌, sym, subst, refl, ap}
use Rattle.std.specs.Prelude.{Some, None}
use Rattle.code_event.specs.declared.event.CodeEvent.TheVariants.{Delete}
use Rattle.code_space.specs.Space.{without_range}
use Rattle.code_objects.proofs.Codes.{codes_put}
use Rattle.code_objects.proofs.Stored.{IsChanged, deletion, range_there}
use Rattle.code_objects.specs.CodeObjects.{CodeParts, start_at}
use Rattle.code_objects.proofs.objects.CodeObjects.free.Goals as goal

pub free-requires : goal.free-requires
free-requires c =
    let start : start_at c.args.self.now.starts c.args.name ≡ Some c.unwrap-start.result = sym c.start_of.ensures.start ∙ c.unwrap-start.ensures in
    record {
      there = range_there c.self.inside.program c.self.inside.codes.items c.self.inside.space c.args.name c.unwrap-start.result c.self.invariant
          (subst (λ (p : CodeParts). start_at p.starts c.args.name ≡ Some c.unwrap-start.result) (sym c.self.view_is) start);
    }

done : (c : goal.After-free)
    → IsChanged c.self.inside.program c.args.self.now c.args.name (Delete c.unwrap-start.result) None
    (take c.self.inside.codes.len (c.put_object.new.codes ++ drop (length c.put_object.new.codes) c.self.inside.codes.items)) c.free.new.self
done c =
    deletion c.self.inside.program c.self.inside.codes.items _ c.self.inside.space c.free.new.self c.args.self.now c.args.name c.unwrap-start.result
    c.self.invariant c.self.view_is (sym c.unwrap-start.ensures ∙ c.start_of.ensures.start)
    (codes_put c.self.inside.codes.len c.args.name None c.put_object.new.codes c.deref_mut.result.now c.self.inside.codes.items c.deref_mut.ensures.value c.deref_mut.ensures.len c.put_object.ensures)
    c.free.ensures.freed c.free.ensures.fewer

pub invariant_of-self : goal.invariant_of-self
invariant_of-self c = (done c).objects

pub returns-clause-event : goal.returns-clause-event
returns-clause-event c = record {
  start = c.unwrap-start.result;
  started = sym c.start_of.ensures.start ∙ c.unwrap-start.ensures;
  event_is = refl;
  none = (done c).start_is;
  space = c.free.ensures.freed ∙ ap (λ (p : CodeParts). without_range p.space c.unwrap-start.result) c.self.view_is;
}

pub returns-clause-others : goal.returns-clause-others
returns-clause-others c = (done c).others

pub returns-clause-ranges : goal.returns-clause-ranges
returns-clause-ranges c = (done c).ranges
