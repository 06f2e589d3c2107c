use Rattle.std.proofs.Common.{◌≡◌, ◌≤◌, length}
use Rattle.attribution.specs.Attribution.{running_in}
use Rattle.item_fold.proofs.Ending.{IsEnding}
use Rattle.item_fold.proofs.folding.Folding.end_all.Given as goal

abbrev pub invariant-loop-session : goal.invariant-loop-session
invariant-loop-session g l = record {
  ending : IsEnding l.fn.self (g.S.OutputStream.parts l.fn.stream) l.time l.self (g.S.OutputStream.parts l.stream);
  chunk_size : g.S.OutputStream.chunk_bytes l.stream ≡ g.S.OutputStream.chunk_bytes l.fn.stream;
  aborts : g.S.OutputStream.aborts l.fn.stream ≤ g.S.OutputStream.aborts l.stream;
  faults : g.S.OutputStream.stream_faults l.fn.stream ≤ g.S.OutputStream.stream_faults l.stream;
}

abbrev pub decreases-loop-session : goal.decreases-loop-session
decreases-loop-session g l = length (running_in l.self.attributor)
