-- The sum of the intervals in place of the ticks.
use Rattle.std.proofs.Common.{◌≡◌, ℕ, ◌+◌, List, [], ◌∷◌, ◌++◌, Bool, true, false, refl, ap, ◌∙◌, arith}
use Rattle.std.specs.Prelude.{Option, Some, None, option_map, if◌then◌else◌, nat_lt, nat_le, ◌==◌, sum_by}
use Rattle.std.specs.Option.{option_map_or}
use Rattle.std.proofs.lemmas.Bool.Decides.{nat_tests}
use Rattle.std.proofs.lemmas.List.Sums.{sum_by_push}
use Rattle.code_event.specs.declared.seen.ResolvedTick.{ResolvedTick}
use Rattle.code_event.specs.Subsample.{kept_since, is_due}
use Rattle.reference_profile.specs.Sums.{sum_after, kept_by_sum}

pub not-le : (a b : ℕ) → nat_lt a b ≡ false → nat_le b a ≡ true
not-le a b h = grind (arith, nat_tests, h)

pub le-lt : (a b : ℕ) → nat_lt a b ≡ true → nat_le b a ≡ false
le-lt a b h = grind (arith, nat_tests, h)

-- a tick above 0, by whether it is due
pub due-step : (rounded : ℕ) (before : List ResolvedTick) (tick : ResolvedTick) (ticks : List ResolvedTick) → kept_since rounded (Some []) ticks ≡ kept_by_sum rounded (Some 0) ticks → kept_since rounded (Some (before ++ tick ∷ [])) ticks ≡ kept_by_sum rounded (Some (sum_by (λ t. t.interval) before + tick.interval)) ticks → (early : Bool) → nat_lt (sum_by (λ t. t.interval) before + tick.interval) rounded ≡ early → (if is_due rounded tick.interval (Some before) then tick ∷ kept_since rounded (Some []) ticks else kept_since rounded (Some (before ++ tick ∷ [])) ticks) ≡ option_map_or (λ sum. kept_by_sum rounded (Some sum) ticks) (sum_after rounded tick.interval (Some (sum_by (λ t. t.interval) before))) (tick ∷ kept_by_sum rounded (Some 0) ticks)
due-step rounded before tick ticks kept more true e = rw (e, le-lt (sum_by (λ t. t.interval) before + tick.interval) rounded e) more
due-step rounded before tick ticks kept more false e = rw (e, not-le (sum_by (λ t. t.interval) before + tick.interval) rounded e) (ap (λ rest. tick ∷ rest) kept)

pub kept_since-sum : (rounded : ℕ) (since : Option (List ResolvedTick)) (ticks : List ResolvedTick) → kept_since rounded since ticks ≡ kept_by_sum rounded (option_map (sum_by (λ tick. tick.interval)) since) ticks
kept_since-sum rounded since [] = refl
kept_since-sum rounded None (tick ∷ ticks) =
    elim (tick.interval == 0) as (λ b. (if b then tick ∷ kept_since rounded None ticks else tick ∷ kept_since rounded (Some []) ticks) ≡ (if b then tick ∷ kept_by_sum rounded None ticks else tick ∷ kept_by_sum rounded (Some 0) ticks)) [
      | true ↦ ap (λ rest. tick ∷ rest) (kept_since-sum rounded None ticks)
      | false ↦ ap (λ rest. tick ∷ rest) (kept_since-sum rounded (Some []) ticks)
    ]
kept_since-sum rounded (Some before) (tick ∷ ticks) =
    let sum : ℕ = sum_by (λ t. t.interval) before in
    let more : kept_since rounded (Some (before ++ tick ∷ [])) ticks ≡ kept_by_sum rounded (Some (sum + tick.interval)) ticks =
    kept_since-sum rounded (Some (before ++ tick ∷ [])) ticks ∙ ap (λ n. kept_by_sum rounded (Some n) ticks) (sum_by_push (λ t. t.interval) before tick) in
    elim (tick.interval == 0) as (λ b. (if b then tick ∷ kept_since rounded (Some before) ticks else if is_due rounded tick.interval (Some before) then tick ∷ kept_since rounded (Some []) ticks else kept_since rounded (Some (before ++ tick ∷ [])) ticks) ≡ (if b then tick ∷ kept_by_sum rounded (Some sum) ticks else option_map_or (λ n. kept_by_sum rounded (Some n) ticks) (sum_after rounded tick.interval (Some sum)) (tick ∷ kept_by_sum rounded (Some 0) ticks))) [
      | true ↦ ap (λ rest. tick ∷ rest) (kept_since-sum rounded (Some before) ticks)
      | false ↦ due-step rounded before tick ticks (kept_since-sum rounded (Some []) ticks) more (nat_lt (sum + tick.interval) rounded) refl
    ]
