use Rattle.std.proofs.Common.{◌∙◌, ◌++◌, ap, sym}
use Rattle.guest_machine.specs.Machine.{printed_text}
use Rattle.guest_program.specs.declared.instr.Op.TheVariants as op
use Rattle.guest_machine.proofs.ActsDone.{fits_somewhere, print_done, quiet_done, small_number}
use Rattle.guest_machine.proofs.machine.Machine.act.Goals as goal

pub returns-in-Set : goal.returns-in-Set
returns-in-Set c =
    let next = sym c.op.ensures.next ∙ c.in-Set.is in
    record {
      does = quiet_done c.args.self.now c.set.new.self c.quiet.result (op.Set c.in-Set.to c.in-Set.number) next tt tt tt c.requires.whole c.requires.going c.set.ensures.stays
          (record { tick = c.quiet.ensures.tick; printed = c.quiet.ensures.printed; engine = c.quiet.ensures.state }) c.quiet.ensures.events c.set.ensures.whole c.set.ensures.code
          (c.set.ensures.does (λ frame. c.in-Set.number) (λ frame same. small_number c.in-Set.number (fits_somewhere c.args.self.now c.requires.whole (op.Set c.in-Set.to c.in-Set.number) next).1));
    }

pub returns-in-Jump : goal.returns-in-Jump
returns-in-Jump c =
    record {
      does = quiet_done c.args.self.now c.jump.new.self c.quiet-in-Jump.result (op.Jump c.in-Jump.index) (sym c.op.ensures.next ∙ c.in-Jump.is) tt tt tt c.requires.whole c.requires.going c.jump.ensures.stays
          (record { tick = c.quiet-in-Jump.ensures.tick; printed = c.quiet-in-Jump.ensures.printed; engine = c.quiet-in-Jump.ensures.state }) c.quiet-in-Jump.ensures.events
          c.jump.ensures.whole c.jump.ensures.code c.jump.ensures.does;
    }

pub returns-in-Halt : goal.returns-in-Halt
returns-in-Halt c =
    record {
      does = quiet_done c.args.self.now c.halt.new.self c.quiet-in-Halt.result op.Halt (sym c.op.ensures.next ∙ c.in-Halt.is) tt tt tt c.requires.whole c.requires.going c.halt.ensures.stays
          (record { tick = c.quiet-in-Halt.ensures.tick; printed = c.quiet-in-Halt.ensures.printed; engine = c.quiet-in-Halt.ensures.state }) c.quiet-in-Halt.ensures.events
          c.halt.ensures.whole c.halt.ensures.code c.halt.ensures.does;
    }

pub returns-in-Add : goal.returns-in-Add
returns-in-Add c =
    record {
      does = quiet_done c.args.self.now c.add.new.self c.quiet-in-Add.result (op.Add c.in-Add.to c.in-Add.from) (sym c.op.ensures.next ∙ c.in-Add.is) tt tt tt c.requires.whole c.requires.going c.add.ensures.stays
          (record { tick = c.quiet-in-Add.ensures.tick; printed = c.quiet-in-Add.ensures.printed; engine = c.quiet-in-Add.ensures.state }) c.quiet-in-Add.ensures.events
          c.add.ensures.whole c.add.ensures.code c.add.ensures.does;
    }

pub returns-in-Sub : goal.returns-in-Sub
returns-in-Sub c =
    record {
      does = quiet_done c.args.self.now c.subtract.new.self c.quiet-in-Sub.result (op.Sub c.in-Sub.to c.in-Sub.from) (sym c.op.ensures.next ∙ c.in-Sub.is) tt tt tt c.requires.whole c.requires.going c.subtract.ensures.stays
          (record { tick = c.quiet-in-Sub.ensures.tick; printed = c.quiet-in-Sub.ensures.printed; engine = c.quiet-in-Sub.ensures.state }) c.quiet-in-Sub.ensures.events
          c.subtract.ensures.whole c.subtract.ensures.code c.subtract.ensures.does;
    }

pub returns-in-Mul : goal.returns-in-Mul
returns-in-Mul c =
    record {
      does = quiet_done c.args.self.now c.multiply.new.self c.quiet-in-Mul.result (op.Mul c.in-Mul.to c.in-Mul.from) (sym c.op.ensures.next ∙ c.in-Mul.is) tt tt tt c.requires.whole c.requires.going c.multiply.ensures.stays
          (record { tick = c.quiet-in-Mul.ensures.tick; printed = c.quiet-in-Mul.ensures.printed; engine = c.quiet-in-Mul.ensures.state }) c.quiet-in-Mul.ensures.events
          c.multiply.ensures.whole c.multiply.ensures.code c.multiply.ensures.does;
    }

pub returns-in-Lt : goal.returns-in-Lt
returns-in-Lt c =
    record {
      does = quiet_done c.args.self.now c.compare.new.self c.quiet-in-Lt.result (op.Lt c.in-Lt.to c.in-Lt.from) (sym c.op.ensures.next ∙ c.in-Lt.is) tt tt tt c.requires.whole c.requires.going c.compare.ensures.stays
          (record { tick = c.quiet-in-Lt.ensures.tick; printed = c.quiet-in-Lt.ensures.printed; engine = c.quiet-in-Lt.ensures.state }) c.quiet-in-Lt.ensures.events
          c.compare.ensures.whole c.compare.ensures.code c.compare.ensures.does;
    }

pub returns-in-Jz : goal.returns-in-Jz
returns-in-Jz c =
    record {
      does = quiet_done c.args.self.now c.jump_if_zero.new.self c.quiet-in-Jz.result (op.Jz c.in-Jz.tested c.in-Jz.index) (sym c.op.ensures.next ∙ c.in-Jz.is) tt tt tt c.requires.whole c.requires.going c.jump_if_zero.ensures.stays
          (record { tick = c.quiet-in-Jz.ensures.tick; printed = c.quiet-in-Jz.ensures.printed; engine = c.quiet-in-Jz.ensures.state }) c.quiet-in-Jz.ensures.events
          c.jump_if_zero.ensures.whole c.jump_if_zero.ensures.code c.jump_if_zero.ensures.does;
    }

pub returns-in-Idle : goal.returns-in-Idle
returns-in-Idle c =
    record {
      does = quiet_done c.args.self.now c.wait_in.new.self c.quiet-in-Idle.result (op.Idle c.in-Idle.steps) (sym c.op.ensures.next ∙ c.in-Idle.is) tt tt tt c.requires.whole c.requires.going c.wait_in.ensures.stays
          (record { tick = c.quiet-in-Idle.ensures.tick; printed = c.quiet-in-Idle.ensures.printed; engine = c.quiet-in-Idle.ensures.state }) c.quiet-in-Idle.ensures.events
          c.wait_in.ensures.whole c.wait_in.ensures.code c.wait_in.ensures.does;
    }

pub returns-in-Native : goal.returns-in-Native
returns-in-Native c =
    record {
      does = quiet_done c.args.self.now c.wait_in-in-Native.new.self c.quiet-in-Native.result (op.Native c.in-Native.steps) (sym c.op.ensures.next ∙ c.in-Native.is) tt tt tt c.requires.whole c.requires.going c.wait_in-in-Native.ensures.stays
          (record { tick = c.quiet-in-Native.ensures.tick; printed = c.quiet-in-Native.ensures.printed; engine = c.quiet-in-Native.ensures.state }) c.quiet-in-Native.ensures.events
          c.wait_in-in-Native.ensures.whole c.wait_in-in-Native.ensures.code c.wait_in-in-Native.ensures.does;
    }

pub returns-in-Collect : goal.returns-in-Collect
returns-in-Collect c =
    record {
      does = quiet_done c.args.self.now c.wait_in-in-Collect.new.self c.quiet-in-Collect.result (op.Collect c.in-Collect.steps) (sym c.op.ensures.next ∙ c.in-Collect.is) tt tt tt c.requires.whole c.requires.going c.wait_in-in-Collect.ensures.stays
          (record { tick = c.quiet-in-Collect.ensures.tick; printed = c.quiet-in-Collect.ensures.printed; engine = c.quiet-in-Collect.ensures.state }) c.quiet-in-Collect.ensures.events
          c.wait_in-in-Collect.ensures.whole c.wait_in-in-Collect.ensures.code c.wait_in-in-Collect.ensures.does;
    }

pub returns-in-Print : goal.returns-in-Print
returns-in-Print c =
    record {
      does = print_done c.args.self.now c.print-printed.new.self c.done-in-Print.result c.in-Print.from (sym c.op.ensures.next ∙ c.in-Print.is) c.requires.whole c.requires.going c.print-printed.ensures.stays
          c.done-in-Print.ensures.tick c.done-in-Print.ensures.state (c.done-in-Print.ensures.events ∙ c.new.ensures) c.print-printed.ensures.whole c.print-printed.ensures.code c.print-printed.ensures.does
          (λ state frame callers is stack_is. c.print-printed.ensures.printed state frame callers is stack_is ∙ ap (λ o. state.printed ++ printed_text o) (sym c.done-in-Print.ensures.printed));
    }
