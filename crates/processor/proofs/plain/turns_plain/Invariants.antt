use Rattle.std.proofs.Common.{ℕ, ◌+◌, List, ◌++◌, length}
use Rattle.std.specs.Prelude.{Option}
use Rattle.code_event.specs.declared.tick.Item.{Item}
use Rattle.out_stream.specs.Parts.{Parts}
use Rattle.processor.specs.Course.{StandsFor}
use Rattle.processor.specs.Running.{running_ports}
use Rattle.processor.specs.TakingLaws.{HoldRest}
use Rattle.processor.proofs.TurnsLeft.{IsLeft}
use Rattle.processor.proofs.plain.turns_plain.Given as goal

abbrev pub invariant-loop : goal.invariant-loop
invariant-loop g l =
    (base : ℕ) (items rest : List Item) (before : Option Parts) → StandsFor base items l.fn.processor.applied l.fn.processor.ticked l.fn.processor.course before (g.S.OutputStream.parts l.fn.processor.stream)
    → HoldRest items rest l.fn.processor.events.items l.fn.processor.vm_ticks.items l.fn.processor.ring.items
    → IsLeft base (items ++ rest) l.counter (length rest + length (running_ports (items ++ rest))) l.processor.applied l.processor.ticked l.processor.course before (g.S.OutputStream.parts l.processor.stream) l.processor.events.items l.processor.vm_ticks.items l.processor.ring.items
