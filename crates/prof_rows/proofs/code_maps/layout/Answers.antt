use Rattle.std.proofs.Common.{refl, arith}
use Rattle.std.specs.Prelude.{None}
use Rattle.prof_rows.proofs.Layouts.{alone_pushed}
use Rattle.prof_rows.proofs.code_maps.layout.Goals as goal

pub new-requires : goal.new-requires
new-requires c =
    alone_pushed c.new-units.result c.push.new.self (record { func = record { 0 = 0 }; entry = c.in_ok-entry.field-0; parent = None }) c.loop-line.slots c.new-units.ensures c.in_ok-push.ensures.ok
    refl (omega (arith, c.requires.some)) (omega (arith, c.requires.few)) c.loop-line.invariant.each
