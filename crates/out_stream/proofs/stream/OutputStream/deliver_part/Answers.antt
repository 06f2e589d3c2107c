use Rattle.std.proofs.Common.{rules, refl, ◌≡◌, ◌≤◌, length, ◌∙◌, subst, ap, ℕ, arith}
use Rattle.std.proofs.lemmas.Bool.Decides.{nat_tests}
use Rattle.out_stream.specs.Cut.{cut}
use Rattle.out_stream.specs.Offers.{went_on, ended}
use Rattle.out_stream.specs.Stopped.{Stopped}
use Rattle.out_stream.specs.declared.stream.Undelivered.TheVariants as undelivered
use Rattle.out_stream.proofs.Sending.{nothing_sent, next_sent, all_heard, stopped_before, stopped_after, taken_unfinished}
use Rattle.out_stream.proofs.stream.OutputStream.deliver_part.Goals as goal

pub loop-rest-init : goal.loop-rest-init
loop-rest-init g c = record {
  sent = nothing_sent _ _ _ _;
  size = refl;
  size_is = c.chunk_size-size.ensures.size;
  positive = c.chunk_size-size.ensures.low;
  no_abort = refl;
  no_fault = refl;
}

pub loop-rest-preserved : goal.loop-rest-preserved
loop-rest-preserved g c =
    let more : 1 ≤ length c.loop-rest.rest.now = grind (arith, nat_tests) in
    record {
      sent = next_sent _ _ _ _ _ _ _ _ _ _ _ _ c.loop-rest.invariant.sent c.loop-rest.invariant.positive more c.min.ensures c.split_at.ensures.front c.split_at.ensures.back (c.in-Continue.ensures.went_on refl) (c.in-Continue.ensures.offers);
      size = search rules;
      size_is = search rules;
      positive = search rules;
      no_abort = search rules;
      no_fault = search rules;
    }

pub returns-in-Abort-clause-err : goal.returns-in-Abort-clause-err
returns-in-Abort-clause-err g c = taken_unfinished _ _ _ _ _ _ _ _ _ _ c.loop-rest.invariant.sent c.split_at.ensures.front (c.in-Abort.ensures.aborted refl)

pub returns-in-Abort-clause-stopped : goal.returns-in-Abort-clause-stopped
returns-in-Abort-clause-stopped g c =
    let more : 1 ≤ length c.loop-rest.rest.now = grind (arith, nat_tests) in
    let all = c.args.bytes.now in
    let stream = g.Self.OutputStream in
    let P : ℕ → Type 0 = λ size. Stopped undelivered.Aborted (cut size (length all)) all (stream.parts c.args.self.now) (stream.parts c.write_chunk.new.self) (stream.offers c.args.self.now) (stream.offers c.write_chunk.new.self) in
    subst P c.loop-rest.invariant.size_is (stopped_after _ _ _ _ _ _ _ _ _ _ _ c.loop-rest.invariant.sent c.loop-rest.invariant.positive more c.min.ensures c.split_at.ensures.front (c.in-Abort.ensures.aborted refl) c.in-Abort.ensures.offers)

pub returns-in-Failed-clause-stopped : goal.returns-in-Failed-clause-stopped
returns-in-Failed-clause-stopped g c =
    let more : 1 ≤ length c.loop-rest.rest.now = grind (arith, nat_tests) in
    let all = c.args.bytes.now in
    let stream = g.Self.OutputStream in
    let P : ℕ → Type 0 = λ size. Stopped undelivered.Failed (cut size (length all)) all (stream.parts c.args.self.now) (stream.parts c.write_chunk.new.self) (stream.offers c.args.self.now) (stream.offers c.write_chunk.new.self) in
    subst P c.loop-rest.invariant.size_is (stopped_before undelivered.Failed _ _ _ _ _ _ _ _ _ _ _ (λ _. refl) c.loop-rest.invariant.sent c.loop-rest.invariant.positive more c.min.ensures c.split_at.ensures.front (c.in-Failed.ensures.failed refl) c.in-Failed.ensures.offers)

pub returns-in-Memory-clause-stopped : goal.returns-in-Memory-clause-stopped
returns-in-Memory-clause-stopped g c =
    let more : 1 ≤ length c.loop-rest.rest.now = grind (arith, nat_tests) in
    let all = c.args.bytes.now in
    let stream = g.Self.OutputStream in
    let P : ℕ → Type 0 = λ size. Stopped undelivered.Memory (cut size (length all)) all (stream.parts c.args.self.now) (stream.parts c.write_chunk.new.self) (stream.offers c.args.self.now) (stream.offers c.write_chunk.new.self) in
    subst P c.loop-rest.invariant.size_is (stopped_before undelivered.Memory _ _ _ _ _ _ _ _ _ _ _ (λ _. refl) c.loop-rest.invariant.sent c.loop-rest.invariant.positive more c.min.ensures c.split_at.ensures.front (c.in-Memory.ensures.memory refl) c.in-Memory.ensures.offers)

pub returns-clause-offers : goal.returns-clause-offers
returns-clause-offers g c =
    let stream = g.Self.OutputStream in
    let none : length c.loop-rest.rest.now ≡ 0 = grind (arith, nat_tests) in
    let heard = all_heard _ _ _ _ _ _ _ c.loop-rest.invariant.sent none in
    let sized = heard ∙ ap (λ size. went_on (stream.offers c.args.self.now) (cut size (length c.args.bytes.now))) c.loop-rest.invariant.size_is in
    c.end_of_stream.ensures.offers ∙ ap ended sized
