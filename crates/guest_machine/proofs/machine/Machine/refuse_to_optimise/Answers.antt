use Rattle.std.proofs.Common.{ap}
use Rattle.guest_program.specs.declared.instr.Op.TheVariants as op
use Rattle.guest_machine.proofs.Barring.{refusing_acts, refusing_ends, same_acts}
use Rattle.guest_machine.proofs.machine.Machine.refuse_to_optimise.Goals.{then-rise+in_ok-disable, else-rise}
use Rattle.guest_machine.proofs.machine.Machine.refuse_to_optimise.Goals as goal

pub returns : goal.returns
returns c =
    record {
      acts = elim c.if-rise.branch [
        | then-rise+in_ok-disable w ↦ same_acts c.args.self.now (op.NoOpt c.args.func c.args.reason) w.self-is w.events-is
            (refusing_acts c.args.self.now c.rise.new.self w.disable.new.self
            (record { whole = c.requires.whole; going = c.requires.going; still = c.rise.ensures.whole; risen = w.if-rise.ensures.rises; moved = w.if-rise.ensures.moves; same = c.rise.ensures.same })
            c.args.func c.requires.known c.args.reason c.new-events.result w.disable.new.events c.new-events.ensures w.in_ok-disable.ensures)
        | else-rise w ↦ same_acts c.args.self.now (op.NoOpt c.args.func c.args.reason) w.self-is w.events-is
            (refusing_ends c.args.self.now c.rise.new.self c.args.func c.args.reason c.new-events.result c.rise.ensures.whole w.if-rise.ensures.rises w.if-rise.ensures.moves
            (ap (λ m. m.code) c.rise.ensures.same) c.new-events.ensures)
      ];
    }
