use Rattle.std.proofs.Common.{ap, ◌∙◌, arith, length}
use Rattle.guest_machine.proofs.Advancing.{youngest_at}
use Rattle.guest_machine.proofs.Instructions.{index_within, body_read, op_read}
use Rattle.guest_machine.proofs.machine.Machine.op.Goals as goal

pub bounds-as_slice-from : goal.bounds-as_slice-from
bounds-as_slice-from c =
    let at = youngest_at c.args.self.now c.frame.result c.slot-slot.result c.frame.ensures c.slot-slot.ensures.slot in
    let within = index_within c.args.self.now c.requires.whole c.slot-slot.result at in
    let body = body_read c.args.self.now c.requires.whole c.slot-slot.result at c.funcs.result.now c.from.result c.index-funcs-from.result (c.funcs.ensures.functions ∙ c.program.ensures) (c.from.ensures ∙ c.func-func.ensures.func) in
    omega (arith, within, ap length (c.as_slice.ensures ∙ body), c.from-2.ensures)

pub returns : goal.returns
returns c =
    let at = youngest_at c.args.self.now c.frame.result c.slot-slot.result c.frame.ensures c.slot-slot.ensures.slot in
    let body = body_read c.args.self.now c.requires.whole c.slot-slot.result at c.funcs.result.now c.from.result c.index-funcs-from.result (c.funcs.ensures.functions ∙ c.program.ensures) (c.from.ensures ∙ c.func-func.ensures.func) in
    record { next = op_read c.args.self.now c.requires.whole c.slot-slot.result at c.as_slice.result.now c.from-2.result c.index-as_slice-from.result (c.as_slice.ensures ∙ body) c.from-2.ensures }
