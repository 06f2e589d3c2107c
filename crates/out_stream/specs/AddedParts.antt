-- Texts that were added to a stream as parts, one after another.
use Rattle.std.specs.Prelude.{◌≡◌, ℕ, List, [], ◌++◌, take, Option, option_map}
use Rattle.std.specs.Option.{option_map_or}
use Rattle.std.specs.List.{slice_get}
use Rattle.prof_base.specs.Prefix.{IsPrefix}
use Rattle.out_stream.specs.Parts.{Parts}

-- the text with this number, from 0, and no bytes where there is none
abbrev pub text_at : List (List ℕ) → ℕ → List ℕ
text_at texts number = option_map_or (λ text. text) (slice_get texts number) []

-- the first `number` texts were added, each as one part, and a prefix of the next is unfinished; after the last there is no next, and the unfinished part is empty
abbrev pub AddsParts : List (List ℕ) → ℕ → Option Parts → Option Parts → Type 0
AddsParts texts number before now =
    (part : List ℕ) × IsPrefix part (text_at texts number) × (now ≡ option_map (λ parts. (parts.0 ++ take number texts, part)) before)
