use Rattle.std.proofs.Common.{false}
use Rattle.port_calls.proofs.Answering.{answered_more, state_more}
use Rattle.step_clock.specs.ClockCalls.{as_answered, begun_after}
use Rattle.step_clock.proofs.ports.StepClock.note.Goals as goal

pub invariant_of-self : goal.invariant_of-self
invariant_of-self c =
    let old = c.args.self.now in
    let had = old.history.items in
    let longer = c.with.result.items in
    record {
      whole = old.whole;
      begun = state_more begun_after false old.has_begun c.args.has_begun had longer c.args.call c.with.ensures.more old.begun c.requires.begun;
      by_clock = answered_more (as_answered old.recording) begun_after false old.has_begun had longer c.args.call c.with.ensures.more old.begun old.by_clock c.requires.by_clock;
    }
