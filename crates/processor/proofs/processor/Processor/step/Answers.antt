use Rattle.std.proofs.Common.{sym, subst, ◌∙◌}
use Rattle.processor.proofs.Turns.{item_turn}
use Rattle.processor.specs.Processor.{Ends, IsTurn, ProcessorParts}
use Rattle.processor.proofs.processor.Processor.step.Goals as goal

pub returns-in-Some-clause-turns : goal.returns-in-Some-clause-turns
returns-in-Some-clause-turns g c =
    let Parts : Type 0 = ProcessorParts g.row.E.Denot g.row.V.Denot g.row.F.Denot g.row.S.Denot in
    let ends : Parts → Ends = λ p. record {
      events = g.E.Head.passed p.events;
      vm_ticks = g.V.Head.passed p.vm_ticks;
      ring = g.F.Fronted.passed p.ring;
      held_events = g.E.Head.holds p.events;
      held_vm_ticks = g.V.Head.holds p.vm_ticks;
      held_samples = g.F.Fronted.holds p.ring;
    } in
    let old : Parts = record {
      events = c.self.inside.taker.events;
      vm_ticks = c.self.inside.taker.vm_ticks;
      ring = c.self.inside.taker.ring;
      applied = c.self.inside.taker.applied;
      ticked = c.self.inside.taker.ticked;
      course = c.self.inside.course;
      stream = c.self.inside.stream;
    } in
    let new : Parts = record {
      events = c.take.new.self.events;
      vm_ticks = c.take.new.self.vm_ticks;
      ring = c.take.new.self.ring;
      applied = c.take.new.self.applied;
      ticked = c.take.new.self.ticked;
      course = c.take-in-Some.new.self;
      stream = c.take-in-Some.new.stream;
    } in
    let given = g.X.FilePorts.given c.args.ports.now in
    let given' = g.X.FilePorts.given c.take-in-Some.new.ports in
    let answer = c.take-in-Some.result in
    subst (λ (o : Parts). IsTurn (ends o) (ends new) o.applied o.ticked new.applied new.ticked o.course new.course
    (g.S.OutputStream.parts o.stream) (g.S.OutputStream.parts new.stream) given given' answer) c.self.view_is
    (item_turn (ends old) (ends new) old.applied old.ticked new.applied new.ticked old.course new.course (g.S.OutputStream.parts old.stream) (g.S.OutputStream.parts new.stream) given given' answer c.in-Some.item
    (sym c.phase.ensures ∙ c.in-Open.is) c.in-Some.ensures.next
    (record {
      events = c.in-Some.ensures.events_passed;
      ticks = c.in-Some.ensures.ticks_passed;
      held_events = c.in-Some.ensures.events_held;
      held_ticks = c.in-Some.ensures.ticks_held;
    }) c.in-Some.ensures.applied c.in-Some.ensures.ticked c.take-in-Some.ensures.answer c.take-in-Some.ensures.courses c.take-in-Some.ensures.gives)
