use Rattle.std.proofs.Common.{◌∙◌, ap, sym}
use Rattle.guest_program.specs.declared.instr.Op.TheVariants as op
use Rattle.guest_machine.proofs.Barring.{same_acts}
use Rattle.guest_machine.proofs.Creating.{creating_acts, optimising_ends, settled_acts}
use Rattle.guest_machine.proofs.machine.Machine.optimise.Goals.{then-rise+then-not-is_settled+in_ok-create, else-rise, else-rise-via-then-rise+else-not-is_settled, else-rise-via-else-rise}
use Rattle.guest_machine.proofs.machine.Machine.optimise.Goals as goal

pub returns : goal.returns
returns c =
    record {
      acts = elim c.if-rise.branch [
        | then-rise+then-not-is_settled+in_ok-create w ↦
            same_acts c.args.self.now (op.Opt c.args.func) w.self-is w.events-is
            (creating_acts c.args.self.now c.rise.new.self w.create.new.self
            (record { whole = c.requires.whole; going = c.requires.going; still = c.rise.ensures.whole; risen = w.if-rise.ensures.rises; moved = w.if-rise.ensures.moves; same = c.rise.ensures.same })
            c.args.func c.requires.known c.new-events.result w.create.new.events c.new-events.ensures (sym w.is_settled.ensures ∙ w.if-not-is_settled.true) w.in_ok-create.ensures)
        | else-rise w ↦
            same_acts c.args.self.now (op.Opt c.args.func) w.self-is w.events-is
            (elim w.else-rise.branch [
              | else-rise-via-then-rise+else-not-is_settled v ↦
                  settled_acts c.args.self.now c.rise.new.self
                  (record { whole = c.requires.whole; going = c.requires.going; still = c.rise.ensures.whole; risen = v.if-rise.ensures.rises; moved = v.if-rise.ensures.moves; same = c.rise.ensures.same })
                  c.args.func c.requires.known c.new-events.result c.new-events.ensures (sym v.is_settled.ensures ∙ v.if-not-is_settled.false)
              | else-rise-via-else-rise v ↦
                  optimising_ends c.args.self.now c.rise.new.self c.args.func c.new-events.result c.rise.ensures.whole v.if-rise.ensures.rises v.if-rise.ensures.moves
                  (ap (λ m. m.code) c.rise.ensures.same) c.new-events.ensures
            ])
      ];
    }
