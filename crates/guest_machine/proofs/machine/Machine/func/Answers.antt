use Rattle.std.proofs.Common.{ap, ◌∙◌, arith, length}
use Rattle.code_objects.specs.CodeObjects.{layout_of}
use Rattle.guest_machine.specs.Machine.{program_of}
use Rattle.guest_machine.proofs.Instructions.{func_there, func_read, unit_within}
use Rattle.guest_machine.proofs.machine.Machine.func.Goals as goal

pub bounds-units-from : goal.bounds-units-from
bounds-units-from c =
    let within = unit_within c.args.self.now c.requires.whole c.args.slot c.requires.at in
    let same = ap (λ l. length l.units) (c.layout.ensures.layout ∙ ap (λ f. layout_of (program_of c.args.self.now) f.code) c.frame.ensures) in
    omega (arith, within, same, ap length c.units.ensures.units, c.from.ensures)

pub bounds-units-from-2 : goal.bounds-units-from-2
bounds-units-from-2 c =
    let within = unit_within c.args.self.now c.requires.whole c.args.slot c.requires.at in
    let same = ap (λ l. length l.units) (c.layout.ensures.layout ∙ ap (λ f. layout_of (program_of c.args.self.now) f.code) c.frame.ensures) in
    omega (arith, within, same, ap length c.units.ensures.units, c.from.ensures)

pub returns-clause-func : goal.returns-clause-func
returns-clause-func c =
    func_read c.args.self.now c.requires.whole c.args.slot c.requires.at c.units.result.now c.from.result c.index-units-from.result
    (c.units.ensures.units ∙ ap (λ l. l.units) (c.layout.ensures.layout ∙ ap (λ f. layout_of (program_of c.args.self.now) f.code) c.frame.ensures)) c.from.ensures

pub returns-clause-within : goal.returns-clause-within
returns-clause-within c =
    let there = func_there c.args.self.now c.requires.whole c.args.slot c.requires.at in
    let is = func_read c.args.self.now c.requires.whole c.args.slot c.requires.at c.units.result.now c.from.result c.index-units-from.result
    (c.units.ensures.units ∙ ap (λ l. l.units) (c.layout.ensures.layout ∙ ap (λ f. layout_of (program_of c.args.self.now) f.code) c.frame.ensures)) c.from.ensures in
    omega (arith, there, is)
