-- Numbers as words.
use Rattle.std.proofs.Common.{ℕ, ◌≡◌, ◌<◌, ◌^◌, List, Result, Ok, Err, arith, decimal, bytes_eq, true, false}
use Rattle.std.proofs.lemmas.Slice.Eq.{bytes_eq-Decides}
use Rattle.std.specs.Str.Parse.{ParsesUnsigned}
use Rattle.std.proofs.lemmas.Fmt.{parse-decimal}

-- the decimal text of a number is parsed as that number
pub parsed_number : (n k : ℕ) (word : List ℕ) → n < 2 ^ 32 → word ≡ decimal n → ParsesUnsigned {E = Unit {0}} 32 10 word (Ok k) → k ≡ n
parsed_number n k word small spelled parses = let parsed : Result ℕ (Unit {0}) = Ok k in let same : parsed ≡ Ok n = parse-decimal 32 n word parsed small (omega arith) spelled parses in cc

-- the decimal text of a number is always parsed
pub parsed_always : (n : ℕ) (word : List ℕ) → n < 2 ^ 32 → word ≡ decimal n → ParsesUnsigned {E = Unit {0}} 32 10 word (Err tt) → ⊥
parsed_always n word small spelled refused = let parsed : Result ℕ (Unit {0}) = Err tt in let same : parsed ≡ Ok n = parse-decimal 32 n word parsed small (omega arith) spelled refused in cc

-- bytes that compare as different are different
pub differs : {xs ys : List ℕ} → bytes_eq xs ys ≡ false → xs ≡ ys → ⊥
differs {xs} {ys} found same = let yes : bytes_eq xs ys ≡ true = (bytes_eq-Decides xs ys).1 same in cc
