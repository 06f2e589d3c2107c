use Rattle.std.proofs.Common.{◌≡◌, ◌+◌, ℕ, List, length}
use Rattle.std.specs.Prelude.{Option}
use Rattle.code_event.specs.declared.tick.Item.{Item}
use Rattle.out_stream.specs.Parts.{Parts}
use Rattle.processor.specs.Plain.{GoesOn}
use Rattle.processor.specs.Settling.{GoesOnTo, IsAmid}
use Rattle.processor.proofs.Settling.{turns_to_settle}
use Rattle.processor.proofs.plain.settle_plain.Given as goal

abbrev pub invariant-loop-answer : goal.invariant-loop-answer
invariant-loop-answer g l = record {
  amid : (base : ℕ) × IsAmid base l.processor.applied l.processor.ticked l.processor.course (g.S.OutputStream.parts l.processor.stream) l.processor.events.items l.processor.vm_ticks.items l.processor.ring.items;
  on : (base : ℕ) (whole : List Item) (before : Option Parts)
      → GoesOn base whole l.fn.processor.applied l.fn.processor.ticked l.fn.processor.course before (g.S.OutputStream.parts l.fn.processor.stream) l.fn.processor.events.items l.fn.processor.vm_ticks.items l.fn.processor.ring.items
      → GoesOn base whole l.processor.applied l.processor.ticked l.processor.course before (g.S.OutputStream.parts l.processor.stream) l.processor.events.items l.processor.vm_ticks.items l.processor.ring.items;
  refusing : GoesOnTo l.fn.processor.course.filing l.processor.course.filing (g.S.OutputStream.aborts l.fn.processor.stream) (g.S.OutputStream.stream_faults l.fn.processor.stream)
      (g.S.OutputStream.aborts l.processor.stream) (g.S.OutputStream.stream_faults l.processor.stream);
  chunk_size : g.S.OutputStream.chunk_bytes l.processor.stream ≡ g.S.OutputStream.chunk_bytes l.fn.processor.stream;
  spare : l.processor.events.spare ≡ l.fn.processor.events.spare;
  places : l.processor.ring.places ≡ l.fn.processor.ring.places;
}

abbrev pub decreases-loop-answer : goal.decreases-loop-answer
decreases-loop-answer g l =
    turns_to_settle l.processor.course.phase (length l.processor.events.items + length l.processor.vm_ticks.items + length l.processor.ring.items) l.processor.course.filing.running
