use Rattle.std.proofs.Common.{◌≡◌, ◌≤◌, ℕ, [], take}
use Rattle.std.specs.Prelude.{Option, Ok}
use Rattle.code_event.specs.ItemList.{IsLegalItems}
use Rattle.out_stream.specs.Parts.{Parts}
use Rattle.item_fold.specs.Folding.{HasFolded}
use Rattle.item_fold.proofs.folding.Folding.take_all.Given as goal

abbrev pub invariant-loop-item : goal.invariant-loop-item
invariant-loop-item g l = record {
  folded : (base : ℕ) (before : Option Parts) → IsLegalItems l.items → HasFolded base [] (Ok tt) l.fn.self before (g.S.OutputStream.parts l.fn.stream)
      → HasFolded base (take l.item-index l.items) (Ok tt) l.self before (g.S.OutputStream.parts l.stream);
  chunk_size : g.S.OutputStream.chunk_bytes l.stream ≡ g.S.OutputStream.chunk_bytes l.fn.stream;
  aborts : g.S.OutputStream.aborts l.fn.stream ≤ g.S.OutputStream.aborts l.stream;
  faults : g.S.OutputStream.stream_faults l.fn.stream ≤ g.S.OutputStream.stream_faults l.stream;
}
