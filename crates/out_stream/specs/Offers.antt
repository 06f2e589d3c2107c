-- What a stream was offered, in order. Where that cannot be observed, each equation says only that it cannot be observed afterwards.
use Rattle.std.specs.Prelude.{ℕ, List, [], ◌∷◌, ◌++◌, map, Option, option_map}
use Rattle.out_stream.specs.declared.stream.Chunk.{Chunk}
use Rattle.out_stream.specs.declared.stream.Chunk.TheVariants.{Continue, Abort, Failed, Memory}
use Rattle.out_stream.specs.declared.stream.Offer.{Offer}
use Rattle.out_stream.specs.declared.stream.Offer.TheVariants.{Bytes, End}

-- these offers were made next
abbrev pub followed : Option (List Offer) → List Offer → Option (List Offer)
followed offers more = option_map (λ before. before ++ more) offers

-- a chunk of this many bytes with its answer; out of memory leaves no trace
abbrev pub heard : ℕ → Chunk → List Offer
heard bytes Continue = Bytes bytes Continue ∷ []
heard bytes Abort = Bytes bytes Abort ∷ []
heard bytes Failed = Bytes bytes Failed ∷ []
heard bytes Memory = []

-- a chunk of this many bytes was offered, and got this answer
abbrev pub offered : Option (List Offer) → ℕ → Chunk → Option (List Offer)
offered offers bytes answer = followed offers (heard bytes answer)

-- chunks of these sizes were offered, and each was answered Continue
abbrev pub went_on : Option (List Offer) → List ℕ → Option (List Offer)
went_on offers sizes = followed offers (map (λ bytes. Bytes bytes Continue) sizes)

-- the part was ended
abbrev pub ended : Option (List Offer) → Option (List Offer)
ended offers = followed offers (End ∷ [])
