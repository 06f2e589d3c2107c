use Rattle.std.proofs.Common.{◌≡◌, ◌≤◌, ◌∙◌, ◌-◌, ◌++◌, suc, length, get_or, ap, subst, arith}
use Rattle.std.proofs.lemmas.List.{length_push}
use Rattle.code_event.specs.Parts.{LayoutParts}
use Rattle.code_layout.specs.Layouts.{joined, inlined_at, expanded}
use Rattle.code_layout.proofs.Steps.{step_kept, slot_added, callee_added, few_left}
use Rattle.code_layout.proofs.parts.Parts.+expand.Goals.{in-Some+in_ok-push_unit+in_ok-expand, in_default}
use Rattle.code_layout.proofs.parts.Parts.+expand.Goals as goal

pub expand-requires : goal.expand-requires
expand-requires t c =
    let funcs = c.args.funcs.now in
    let instr = c.index-body-from.result in
    let body = c.as_slice-body.result.now in
    let callee = c.in-Some.callee.0 in
    let old = c.loop-index.self in
    let is : instr ≡ get_or body c.loop-index.index instr = cc in
    let child : c.count-child.result ≡ length c.push_slot.new.self.units = c.count-child.ensures in
    let slotted : length c.push_slot.new.self.units ≡ length old.units = ap (λ (p : LayoutParts). length p.units) c.in_ok-push_slot.ensures in
    let begun = ap (λ (p : LayoutParts). length p.units) c.in_ok-push_unit.ensures ∙ length_push c.push_slot.new.self.units _ in
    let count : length c.push_unit.new.self.units ≡ suc (length old.units) = omega (arith, begun, slotted) in
    let number : length old.units ≡ c.count-child.result = omega (arith, child, slotted) in
    let room = few_left funcs c.args.depth c.args.unit c.loop-index.index instr body callee old (joined c.args.self.now (expanded funcs c.args.depth c.args.func.0 c.args.unit)) c.push_unit.new.self
    (omega arith) is c.loop-index.invariant c.requires.few c.in-Some.ensures.depth c.in-Some.ensures.some count in
    let few = subst (λ n. length (c.push_unit.new.self.units ++ (expanded funcs (c.args.depth - 1) callee n).units) ≤ 4096) number room in
    (omega (arith, c.in-Some.ensures.depth), (c.requires.rules, (c.in-Some.ensures.within, (omega (arith, count, number), few))))

pub loop-index-preserved : goal.loop-index-preserved
loop-index-preserved t c =
    let funcs = c.args.funcs.now in
    let instr = c.index-body-from.result in
    let body = c.as_slice-body.result.now in
    let old = c.loop-index.self in
    let new = c.match-callee_at.self in
    let is : instr ≡ get_or body c.loop-index.index instr = cc in
    step_kept (inlined_at funcs c.args.depth) c.args.unit c.loop-index.index instr body old new (joined c.args.self.now (expanded funcs c.args.depth c.args.func.0 c.args.unit))
    (omega arith) is c.loop-index.invariant
    (elim c.match-callee_at.branch [
      | in-Some+in_ok-push_unit+in_ok-expand w ↦ (
          let child : w.count-child.result ≡ length c.push_slot.new.self.units = w.count-child.ensures in
          callee_added funcs c.args.depth c.args.unit c.loop-index.index instr w.in-Some.callee.0 old c.push_slot.new.self w.push_unit.new.self new w.in-Some.ensures.depth w.in-Some.ensures.some
          c.in_ok-push_slot.ensures w.in_ok-push_unit.ensures
          (w.self-is ∙ w.in_ok-expand.ensures ∙ ap (λ n. joined w.push_unit.new.self (expanded funcs (c.args.depth - 1) w.in-Some.callee.0 n)) child))
      | in_default w ↦ slot_added funcs c.args.depth c.args.unit c.loop-index.index instr old new w.in_default.ensures.none (w.self-is ∙ c.in_ok-push_slot.ensures)
    ])
