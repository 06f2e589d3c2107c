use Rattle.std.proofs.Common.{◌-◌, ◌∙◌, ap, refl, arith, get_or, length}
use Rattle.std.proofs.lemmas.List.{length-set}
use Rattle.std.specs.Prelude.{ℕ, Option, Some, cond, ◌==◌}
use Rattle.std.specs.Global.{Vec}
use Rattle.code_layout.specs.Places.{entry}
use Rattle.code_event.specs.declared.layout.Slot.{Slot}
use Rattle.code_layout.proofs.Places.{one_slot_more, unit_there}
use Rattle.code_layout.proofs.table.SlotTable.new.Goals as goal

pub loop-place-preserved : goal.loop-place-preserved
loop-place-preserved c =
    let none : Slot = record { unit = 0; index = 0; line = 0 } in
    let there = unit_there c.slots-slots.result.now c.args.layout.now.slots (length c.args.layout.now.units) c.from.result none c.slots-slots.ensures.rules.slots_in_units c.slots-slots.ensures.slots
    (omega (arith, c.from.ensures, c.loop-place.invariant.within, c.loop-place-test.true)) in
    record {
      within = omega arith;
      count = length-set c.loop-place.rows.items c.from-in-loop-place.result c.put.new.row ∙ c.loop-place.invariant.count;
      places =
          one_slot_more c.slots-slots.result.now c.loop-place.rows.items c.put.new.row c.index_mut.result.now c.loop-place.place (c.loop-place.place - 1) c.from.result c.from-in-loop-place.result
          (get_or c.slots-slots.result.now c.from.result none).index none (omega arith) (omega arith) c.from.ensures c.from-in-loop-place.ensures refl (omega (arith, there, c.from-in-loop-place.ensures, c.loop-place.invariant.count)) (λ other. c.in_ok-put.ensures other
          ∙ ap (λ (row : Vec (Option ℕ)). cond ((get_or c.slots-slots.result.now c.from.result none).index == other) (Some (c.loop-place.place - 1)) (entry row.items other)) c.index_mut.ensures.value) c.loop-place.invariant.places;
    }
