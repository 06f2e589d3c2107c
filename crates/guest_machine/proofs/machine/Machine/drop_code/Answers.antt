use Rattle.std.proofs.Common.{ap, refl, ◌∙◌, ◌++◌, ◌∷◌, sym, subst, []}
use Rattle.std.specs.Prelude.{is_some, not}
use Rattle.code_objects.specs.Changes.{RangesFollow}
use Rattle.code_objects.specs.CodeObjects.{plain_name}
use Rattle.guest_machine.specs.Machine.{Acts, program_of}
use Rattle.plain_machine.specs.PlainMachine.{rises}
use Rattle.guest_machine.proofs.Advancing.{has_passed}
use Rattle.guest_machine.proofs.Said.{plain_alone}
use Rattle.guest_machine.proofs.KeptCode.{quiet_acts, freed_acts}
use Rattle.guest_machine.proofs.Moved.{unmoved_keeps}
use Rattle.guest_machine.proofs.CollectRules.{kept_absent, kept_used, drops_keep, drops_none, drops_some}
use Rattle.guest_machine.specs.Rules.{frames_of}
use Rattle.guest_program.specs.declared.instr.Op.TheVariants as op
use Rattle.guest_machine.proofs.machine.Machine.drop_code.Goals.{then-is_none-via-then-is_none, then-is_none-via-else-is_none+then-is_in_use}
use Rattle.guest_machine.proofs.machine.Machine.drop_code.Goals as goal

pub returns-then-not-rise-clause-acts : goal.returns-then-not-rise-clause-acts
returns-then-not-rise-clause-acts c =
    subst (λ events. Acts c.args.self.now c.rise.new.self events (λ state frame callers. rises (program_of c.args.self.now) state state frame callers)) (sym c.new-events.ensures)
    (quiet_acts c.args.self.now c.rise.new.self (λ state frame callers. rises (program_of c.args.self.now) state state frame callers) c.rise.ensures.whole (ap (λ m. m.code) c.rise.ensures.same)
    (has_passed c.args.self.now c.rise.new.self c.rise.result c.rise.ensures.rises))

pub returns-then-is_none-clause-acts : goal.returns-then-is_none-clause-acts
returns-then-is_none-clause-acts c =
    subst (λ events. Acts c.args.self.now c.rise.new.self events (λ state frame callers. rises (program_of c.args.self.now) state state frame callers)) (sym c.new-events.ensures)
    (quiet_acts c.args.self.now c.rise.new.self (λ state frame callers. rises (program_of c.args.self.now) state state frame callers) c.rise.ensures.whole (ap (λ m. m.code) c.rise.ensures.same)
    (has_passed c.args.self.now c.rise.new.self c.rise.result c.rise.ensures.rises))

pub returns-clause-acts : goal.returns-clause-acts
returns-clause-acts c =
    let pushed = c.in_ok-push.ensures.ok ∙ ap (λ events. events ++ c.free.result ∷ []) c.new-events.ensures in
    freed_acts c.rise.new.self c.free.new.self c.free.ensures.funcs (plain_alone c.rise.new.self.code c.free.new.self c.args.func c.free.ensures.others) c.args.self.now c.push.new.self (λ state frame callers. rises (program_of c.args.self.now) state state frame callers)
    (plain_name c.args.func) c.free.ensures.event.start
    c.rise.ensures.whole (ap (λ m. m.code) c.rise.ensures.same) (has_passed c.args.self.now c.rise.new.self c.rise.result c.rise.ensures.rises) c.free.ensures.others
    (c.is_in_use.ensures.unused c.if-is_in_use.false) (pushed ∙ ap (λ event. event ∷ []) c.free.ensures.event.event_is)
    (subst (λ events. RangesFollow c.rise.new.self.code c.free.new.self events) (sym pushed) c.free.ensures.ranges)

pub returns-then-not-rise-clause-rules : goal.returns-then-not-rise-clause-rules
returns-then-not-rise-clause-rules c =
    unmoved_keeps c.args.self.now c.rise.new.self c.new-events.result (op.Drop c.args.func) (has_passed c.args.self.now c.rise.new.self c.rise.result c.rise.ensures.rises) c.if-not-rise.ensures.moves
    (ap (λ m. m.code) c.rise.ensures.same) c.new-events.ensures

pub returns-then-is_none-clause-rules : goal.returns-then-is_none-clause-rules
returns-then-is_none-clause-rules c =
    drops_keep c.args.self.now c.rise.new.self c.rise.new.self c.new-events.result c.requires.whole c.requires.going c.if-not-rise.ensures.moves (ap (λ m. m.code) c.rise.ensures.same) refl refl c.args.func
    (has_passed c.args.self.now c.rise.new.self c.rise.result c.rise.ensures.rises)
    (drops_none c.args.func (frames_of c.rise.new.self) c.rise.new.self.code c.new-events.result
    (elim c.then-is_none.branch [
      | then-is_none-via-then-is_none w ↦ kept_absent _ _ (ap is_some (sym c.start_of.ensures.start) ∙ c.is_none.ensures ∙ ap not w.if-is_none.true)
      | then-is_none-via-else-is_none+then-is_in_use w ↦ kept_used _ _ (sym w.is_in_use.ensures.in_use ∙ w.if-is_in_use.true)
    ])
    c.new-events.ensures)

pub returns-clause-rules : goal.returns-clause-rules
returns-clause-rules c =
    let pushed = c.in_ok-push.ensures.ok ∙ ap (λ events. events ++ c.free.result ∷ []) c.new-events.ensures in
    drops_keep c.args.self.now c.rise.new.self (record c.rise.new.self { code = c.free.new.self }) c.push.new.self c.requires.whole c.requires.going c.if-not-rise.ensures.moves (ap (λ m. m.code) c.rise.ensures.same)
    refl c.free.ensures.funcs c.args.func (returns-clause-acts c).does
    (drops_some c.args.func (frames_of c.rise.new.self) c.rise.new.self.code c.free.new.self c.push.new.self (ap is_some (sym c.start_of.ensures.start) ∙ c.is_none.ensures ∙ ap not c.if-is_none.false) (sym c.is_in_use.ensures.in_use ∙ c.if-is_in_use.false)
    (record { event = c.free.result; deletion = c.free.ensures.event; others = c.free.ensures.others; funcs = c.free.ensures.funcs; raised = pushed }))
