use Rattle.std.proofs.Common.{ℕ, List, subst}
use Rattle.std.specs.Prelude.{Option}
use Rattle.code_event.specs.ItemList.{IsLegalItems}
use Rattle.code_event.specs.declared.tick.Item.{Item}
use Rattle.item_fold.proofs.Taking.{first_is}
use Rattle.out_stream.specs.Parts.{Parts}
use Rattle.processor.proofs.OnCourse.{finish_goes_on, finish_gives, ends_first}
use Rattle.processor.specs.Course.{IsFinishing, GivesNext, EndsFirst}
use Rattle.processor.specs.Filing.{FilingParts}
use Rattle.processor.specs.Running.{sessions_of}
use Rattle.processor.proofs.course.Course.end_next.Goals as goal

pub returns-in-Some-clause-goes_on : goal.returns-in-Some-clause-goes_on
returns-in-Some-clause-goes_on g c =
    let first = first_is (sessions_of c.self.inside.filing.running) c.in-Some.session.0 c.in-Some.ensures in
    subst (λ (f : FilingParts). (base : ℕ) (items : List Item) (before : Option Parts) → IsLegalItems items → IsFinishing base items c.args.time f before (g.S.OutputStream.parts c.args.stream.now)
    → IsFinishing base items c.args.time c.stop.new.self before (g.S.OutputStream.parts c.stop.new.stream)) (λ i. (c.self.view_is i).filing)
    (finish_goes_on c.self.inside.filing c.stop.new.self c.in-Some.session first.0 c.args.time (g.S.OutputStream.parts c.args.stream.now) (g.S.OutputStream.parts c.stop.new.stream) first.1 c.stop.ensures.running c.stop.ensures.files)

pub returns-in-Some-clause-gives : goal.returns-in-Some-clause-gives
returns-in-Some-clause-gives g c =
    let first = first_is (sessions_of c.self.inside.filing.running) c.in-Some.session.0 c.in-Some.ensures in
    subst (λ (f : FilingParts). (base : ℕ) (items : List Item) (before : Option Parts) → IsLegalItems items → IsFinishing base items c.args.time f before (g.S.OutputStream.parts c.args.stream.now)
    → GivesNext base items (sessions_of f.running) f c.stop.new.self.is_spent (g.X.FilePorts.given c.args.ports.now) (g.X.FilePorts.given c.stop.new.ports)) (λ i. (c.self.view_is i).filing)
    (finish_gives c.self.inside.filing c.in-Some.session first.0 c.args.time c.stop.new.self.is_spent (g.S.OutputStream.parts c.args.stream.now) (g.X.FilePorts.given c.args.ports.now) (g.X.FilePorts.given c.stop.new.ports) first.1 c.stop.ensures.gives)

pub returns-in-Some-clause-ends : goal.returns-in-Some-clause-ends
returns-in-Some-clause-ends g c =
    subst (λ (f : FilingParts). EndsFirst f.running f c.stop.new.self) (λ i. (c.self.view_is i).filing)
    (ends_first c.self.inside.filing.running c.self.inside.filing c.stop.new.self c.in-Some.session.0 c.in-Some.ensures c.stop.ensures.running)
