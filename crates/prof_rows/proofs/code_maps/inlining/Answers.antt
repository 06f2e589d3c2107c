use Rattle.std.proofs.Common.{refl, arith}
use Rattle.std.specs.Prelude.{Some, None}
use Rattle.prof_rows.proofs.Layouts.{inlined_pushed}
use Rattle.prof_rows.proofs.code_maps.inlining.Goals as goal

pub new-requires : goal.new-requires
new-requires c =
    inlined_pushed c.new-units.result c.push.new.self c.push-2.new.self
    (record { func = record { 0 = 0 }; entry = c.in_ok-entry.field-0; parent = None })
    (record { func = record { 0 = 1 }; entry = c.in_ok-entry-2.field-0; parent = Some (record { unit = 0; index = 1; line = 3 }) })
    (record { unit = 0; index = 1; line = 3 }) c.loop-unit.slots c.new-units.ensures c.in_ok-push.ensures.ok c.in_ok-push-2.ensures.ok
    refl refl refl (omega arith) (omega arith) c.loop-unit.invariant.each
