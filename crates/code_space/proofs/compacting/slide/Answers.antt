use Rattle.std.proofs.Common.{arith, get_or, refl}
use Rattle.code_space.proofs.Sliding.{slid_more}
use Rattle.code_space.proofs.compacting.slide.Goals as goal

pub loop-range-preserved : goal.loop-range-preserved
loop-range-preserved c =
    let at = c.loop-range.range-index in
    let range = get_or c.loop-range.ranges at (record { start = 0; size = 0 }) in
    let room = c.loop-range.invariant.room in
    let one = c.push_move.ensures.one in
    let capacity = c.push_move.ensures.capacity in
    record {
      slid = slid_more c.args.ranges.now c.loop-range.ranges c.loop-range.moves.items _ c.loop-range.free at range (record { start = 0; size = 0 }) c.loop-range.invariant.slid c.loop-range-test.true refl _ c.push_move.new.moves.items _ (omega arith) refl c.push_move.ensures.items;
      room = omega (arith, room, one, capacity);
    }
