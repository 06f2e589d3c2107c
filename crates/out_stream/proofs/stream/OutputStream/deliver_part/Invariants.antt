use Rattle.std.proofs.Common.{◌≡◌, ◌≤◌, length}
use Rattle.out_stream.proofs.Sending.{Sent}
use Rattle.out_stream.proofs.stream.OutputStream.deliver_part.Given as goal

abbrev pub invariant-loop-rest : goal.invariant-loop-rest
invariant-loop-rest g l =
    let stream = g.Self.OutputStream in
    record {
      sent : Sent l.size l.bytes l.rest (stream.parts l.fn.self) (stream.parts l.self) (stream.offers l.fn.self) (stream.offers l.self);
      size : stream.chunk_bytes l.self ≡ stream.chunk_bytes l.fn.self;
      size_is : l.size ≡ stream.chunk_bytes l.fn.self;
      positive : 1 ≤ l.size;
      no_abort : stream.aborts l.self ≡ stream.aborts l.fn.self;
      no_fault : stream.stream_faults l.self ≡ stream.stream_faults l.fn.self;
    }

abbrev pub decreases-loop-rest : goal.decreases-loop-rest
decreases-loop-rest g l = length l.rest
