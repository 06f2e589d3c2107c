use Rattle.std.proofs.Common.{ap, refl, sym, subst}
use Rattle.code_space.specs.Compaction.{compacted, moves_between}
use Rattle.code_space.specs.declared.range.TheConstants.{FIRST_ADDRESS}
use Rattle.code_objects.specs.CodeObjects.{optimised_name}
use Rattle.guest_machine.specs.Machine.{Acts, program_of}
use Rattle.plain_machine.specs.PlainMachine.{rises}
use Rattle.guest_machine.proofs.Advancing.{has_passed}
use Rattle.guest_machine.proofs.KeptCode.{quiet_acts, compacted_acts}
use Rattle.guest_machine.proofs.Moved.{unmoved_keeps}
use Rattle.guest_machine.proofs.CollectRules.{compacts_keep}
use Rattle.guest_program.specs.declared.instr.Op.TheVariants as op
use Rattle.guest_machine.proofs.machine.Machine.collect.Goals as goal

pub returns-then-not-rise-clause-acts : goal.returns-then-not-rise-clause-acts
returns-then-not-rise-clause-acts c =
    subst (λ events. Acts c.args.self.now c.rise.new.self events (λ state frame callers. rises (program_of c.args.self.now) state state frame callers)) (sym c.new.ensures)
    (quiet_acts c.args.self.now c.rise.new.self (λ state frame callers. rises (program_of c.args.self.now) state state frame callers) c.rise.ensures.whole (ap (λ m. m.code) c.rise.ensures.same)
    (has_passed c.args.self.now c.rise.new.self c.rise.result c.rise.ensures.rises))

pub returns-clause-acts : goal.returns-clause-acts
returns-clause-acts c =
    compacted_acts c.rise.new.self c.compact.new.self c.compact.ensures.funcs (λ func. c.compact.ensures.there (optimised_name func)) c.args.self.now c.in_ok-moves.moves (λ state frame callers. rises (program_of c.args.self.now) state state frame callers)
    c.rise.ensures.whole (ap (λ m. m.code) c.rise.ensures.same) (has_passed c.args.self.now c.rise.new.self c.rise.result c.rise.ensures.rises) c.compact.ensures.there
    (moves_between c.rise.new.self.code.space (compacted FIRST_ADDRESS c.rise.new.self.code.space)) c.in_ok-moves.ensures.events c.in_ok-moves.ensures.ranges

pub returns-then-not-rise-clause-rules : goal.returns-then-not-rise-clause-rules
returns-then-not-rise-clause-rules c =
    unmoved_keeps c.args.self.now c.rise.new.self c.new.result op.Gc (has_passed c.args.self.now c.rise.new.self c.rise.result c.rise.ensures.rises) c.if-not-rise.ensures.moves
    (ap (λ m. m.code) c.rise.ensures.same) c.new.ensures

pub returns-clause-rules : goal.returns-clause-rules
returns-clause-rules c =
    compacts_keep c.args.self.now c.rise.new.self (record c.rise.new.self { code = c.compact.new.self }) c.in_ok-moves.moves c.requires.whole c.requires.going c.if-not-rise.ensures.moves
    (ap (λ m. m.code) c.rise.ensures.same) refl c.compact.ensures.funcs (returns-clause-acts c).does
    (record { space = c.in_ok-moves.ensures.space; starts = c.in_ok-moves.ensures.starts; funcs = c.compact.ensures.funcs; raised = c.in_ok-moves.ensures.events })
