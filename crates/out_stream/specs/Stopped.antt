-- A delivery that stops before the end.
use Rattle.std.specs.Prelude.{ℕ, ◌≡◌, ◌<◌, ◌+◌, List, length, take, sum, slice_index, Option}
use Rattle.out_stream.specs.Parts.{Parts, grown}
use Rattle.out_stream.specs.Offers.{offered, went_on}
use Rattle.out_stream.specs.declared.stream.Chunk.{Chunk}
use Rattle.out_stream.specs.declared.stream.Chunk.TheVariants as chunk
use Rattle.out_stream.specs.declared.stream.Offer.{Offer}
use Rattle.out_stream.specs.declared.stream.Undelivered.{Undelivered}
use Rattle.out_stream.specs.declared.stream.Undelivered.TheVariants.{Aborted, Failed, Memory}

-- the answer at which it stopped
abbrev pub stopping_answer : Undelivered → Chunk
stopping_answer Aborted = chunk.Abort
stopping_answer Failed = chunk.Failed
stopping_answer Memory = chunk.Memory

-- how many chunks were taken where the one after the first `at` stopped it: an abort takes its chunk
abbrev pub taken_chunks : Undelivered → ℕ → ℕ
taken_chunks Aborted at = at + 1
taken_chunks Failed at = at
taken_chunks Memory at = at

-- the chunks before `at` were answered Continue, the one at `at` stopped it, and nothing more was called; the bytes of the chunks that were taken are unfinished
pub record Stopped (why : Undelivered) (sizes bytes : List ℕ) (parts_old parts_new : Option Parts) (offers_old offers_new : Option (List Offer)) : Type 0 where
  pub at : ℕ
  pub some_left : at < length sizes
  pub offers : offers_new ≡ offered (went_on offers_old (take at sizes)) (slice_index sizes at) (stopping_answer why)
  pub parts : parts_new ≡ grown parts_old (take (sum (take (taken_chunks why at) sizes)) bytes)
