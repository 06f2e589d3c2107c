-- The source interval of the first sessions of a list.
use Rattle.std.proofs.Common.{◌≡◌, ℕ, ◌+◌, ◌<◌, List, [], ◌∷◌, ◌++◌, map, length, take, get_or, refl, ap, sym, ◌∙◌}
use Rattle.std.proofs.lemmas.List.{map-append, take_more}
use Rattle.std.proofs.lemmas.Nat.Gcd.{same_from_IsGcd}
use Rattle.std.specs.Int.{IsGcd}
use Rattle.prof_base.specs.Interval.{rounded_of}
use Rattle.run_schedule.specs.Schedule.{Running}
use Rattle.run_schedule.specs.Source.{gcd, source_with, source_for}
use Rattle.run_schedule.proofs.Sources.{gcd_is_greatest}

-- a greatest common divisor is the computed one
gcd_is_one : (a b g : ℕ) → IsGcd a b g → g ≡ gcd a b
gcd_is_one a b g is = same_from_IsGcd a b g (gcd a b) is (gcd_is_greatest a b)

source_with-push : (base source : ℕ) (intervals : List ℕ) (interval : ℕ) → source_with base source (intervals ++ interval ∷ []) ≡ gcd (source_with base source intervals) (rounded_of base interval)
source_with-push base source [] interval = refl
source_with-push base source (first ∷ intervals) interval = source_with-push base (gcd source (rounded_of base first)) intervals interval

source_for-push : (base : ℕ) (running : List Running) (next : Running) → source_for base (running ++ next ∷ []) ≡ gcd (source_for base running) (rounded_of base next.interval)
source_for-push base running next =
    ap (source_with base 0) (map-append (λ (r : Running). r.interval) running (next ∷ []))
    ∙ source_with-push base 0 (map (λ (r : Running). r.interval) running) next.interval

-- the source interval of the first sessions and one more
pub source_taken : (base : ℕ) (running : List Running) (at : ℕ) (item : Running) (source interval next : ℕ)
    → at < length running → item ≡ get_or running at item → interval ≡ item.interval
    → source ≡ source_for base (take at running) → next ≡ gcd source (rounded_of base interval)
    → next ≡ source_for base (take (at + 1) running)
source_taken base running at item source interval next within is same before one_more =
    let more : source_for base (take (at + 1) running) ≡ gcd (source_for base (take at running)) (rounded_of base (get_or running at item).interval) =
    ap (source_for base) (take_more running at item within) ∙ source_for-push base (take at running) (get_or running at item) in
    one_more
    ∙ ap (λ s. gcd s (rounded_of base interval)) before
    ∙ ap (λ i. gcd (source_for base (take at running)) (rounded_of base i)) (same ∙ ap (λ (r : Running). r.interval) is)
    ∙ sym more

-- the source interval with one session more, of numbers that are equal to those given
pub gcd_next : (source base interval a b g : ℕ) → a ≡ source → b ≡ rounded_of base interval → IsGcd a b g → g ≡ gcd source (rounded_of base interval)
gcd_next source base interval a b g ea eb is = gcd_is_one a b g is ∙ ap (λ x. gcd x b) ea ∙ ap (gcd source) eb
