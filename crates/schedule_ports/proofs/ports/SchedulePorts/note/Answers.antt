use Rattle.std.proofs.Common.{refl, sym}
use Rattle.std.specs.Prelude.{drop}
use Rattle.port_calls.proofs.Answering.{answered_more, state_more}
use Rattle.schedule_ports.specs.ScheduleCalls.{by_schedule, left_after, left_of}
use Rattle.schedule_ports.proofs.ports.SchedulePorts.note.Goals as goal

pub invariant_of-self : goal.invariant_of-self
invariant_of-self c =
    let old = c.args.self.now in
    let had = old.place.history.items in
    let longer = c.with.result.items in
    let left = left_of old.schedule had in
    record {
      left = sym (state_more left_after old.schedule.entries left (drop c.args.next old.schedule.entries) had longer c.args.call c.with.ensures.more refl c.requires.left);
      by_schedule = answered_more by_schedule left_after old.schedule.entries left had longer c.args.call c.with.ensures.more refl old.by_schedule c.requires.by_schedule;
    }
