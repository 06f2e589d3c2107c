use Rattle.std.proofs.Common.{[], ◌∷◌, ◌++◌, sym, subst, ◌∙◌}
use Rattle.code_event.specs.ItemFile.{item_file}
use Rattle.code_event.specs.declared.event.CodeEvent.{CodeEvent}
use Rattle.code_event.specs.declared.tick.Item.TheVariants as item
use Rattle.processor.proofs.OnCourse.{course_stop, at_stop}
use Rattle.processor.specs.Course.{CourseParts, CoursesEvent, GivesAt, IsOnCourse}
use Rattle.processor.specs.Filing.{GivesFile}
use Rattle.processor.specs.Running.{port_in}
use Rattle.processor.proofs.course.Course.event.Goals as goal

pub returns-in-Stop-clause-courses : goal.returns-in-Stop-clause-courses
returns-in-Stop-clause-courses g c =
    let old : CourseParts = record { phase = c.self-in-Stop.inside.phase; filing = c.self-in-Stop.inside.filing } in
    let new : CourseParts = record { phase = c.self-in-Stop.inside.phase; filing = c.stop.new.self } in
    let going = (λ i. (c.self-in-Stop.view_is i).phase) ∙ c.requires.going in
    subst (λ (o : CourseParts). CoursesEvent o (g.S.OutputStream.parts c.args.stream.now) c.args.event.now new (g.S.OutputStream.parts c.stop.new.stream)) c.self-in-Stop.view_is
    (subst (λ (e : CodeEvent). CoursesEvent old (g.S.OutputStream.parts c.args.stream.now) e new (g.S.OutputStream.parts c.stop.new.stream)) (sym c.in-Stop.is)
    (course_stop old new c.in-Stop.session c.in-Stop.time (g.S.OutputStream.parts c.args.stream.now) (g.S.OutputStream.parts c.stop.new.stream) going going c.stop.ensures.files))

pub returns-in-Stop-clause-gives : goal.returns-in-Stop-clause-gives
returns-in-Stop-clause-gives g c base items e before is legal h =
    let old : CourseParts = record { phase = c.self-in-Stop.inside.phase; filing = c.self-in-Stop.inside.filing } in
    let going = (λ i. (c.self-in-Stop.view_is i).phase) ∙ c.requires.going in
    let given = g.X.FilePorts.given c.args.ports.now in
    let given' = g.X.FilePorts.given c.stop.new.ports in
    let parts = g.S.OutputStream.parts c.args.stream.now in
    subst (λ (o : CourseParts). GivesAt base (items ++ item.Event e ∷ []) c.args.event.now o.filing c.stop.new.self.is_spent given given') c.self-in-Stop.view_is
    (subst (λ (event : CodeEvent). GivesAt base (items ++ item.Event e ∷ []) event old.filing c.stop.new.self.is_spent given given') (sym c.in-Stop.is)
    (at_stop old c.in-Stop.session c.in-Stop.time parts
    (λ b all from. GivesFile (port_in old.filing.running c.in-Stop.session.0) c.in-Stop.session (item_file b all c.in-Stop.session) old.filing.is_spent c.stop.new.self.is_spent given given') going c.stop.ensures.gives
    base items e before (is ∙ c.in-Stop.is) legal (subst (λ (o : CourseParts). IsOnCourse base items o before parts) (sym c.self-in-Stop.view_is) h)))

pub returns-in-Finish-clause-gives : goal.returns-in-Finish-clause-gives
returns-in-Finish-clause-gives g c base items e before is legal h =
    subst (λ (event : CodeEvent). GivesAt base (items ++ item.Event e ∷ []) event c.args.self.now.filing c.finish.new.self.filing.is_spent (g.X.FilePorts.given c.args.ports.now) (g.X.FilePorts.given c.finish.new.ports)) (sym c.in-Finish.is)
    (c.finish.ensures.gives base (items ++ item.Event e ∷ []))
