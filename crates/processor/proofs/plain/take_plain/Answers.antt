use Rattle.processor.proofs.PlainTaking.{took_nothing, took_first, took_it}
use Rattle.processor.proofs.plain.take_plain.Goals as goal

pub returns-clause-nothing : goal.returns-clause-nothing
returns-clause-nothing c =
    took_nothing c.take.result c.args.taker.now.applied c.args.taker.now.ticked c.args.taker.now.events.items c.args.taker.now.vm_ticks.items c.args.taker.now.ring.items _ _ _
    c.take.ensures.no_next c.take.ensures.event_shown c.take.ensures.vm_tick_shown c.take.ensures.sample_shown

pub returns-clause-first : goal.returns-clause-first
returns-clause-first c =
    took_first c.take.result c.args.taker.now.applied c.args.taker.now.ticked c.args.taker.now.events.items c.take.new.self.events.items c.args.taker.now.vm_ticks.items c.take.new.self.vm_ticks.items
    c.args.taker.now.ring.items c.take.new.self.ring.items c.take.ensures.next c.take.ensures.events_held c.take.ensures.ticks_held

pub returns-clause-taken : goal.returns-clause-taken
returns-clause-taken c =
    took_it c.take.result c.args.taker.now.applied c.args.taker.now.ticked c.take.new.self.applied c.take.new.self.ticked c.take.ensures.next c.take.ensures.applied c.take.ensures.ticked
