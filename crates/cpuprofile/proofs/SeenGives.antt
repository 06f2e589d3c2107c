-- What a session has finished in what is seen is given by ticks.
use Rattle.std.proofs.Common.{◌≡◌, ℕ, ◌-◌, ◌<◌, ◌^◌, List, [], ◌∷◌, ◌++◌, map, cond, Bool, true, false, length, Option, Some, None, ◌==◌, refl, sym, ap, ◌∙◌, subst, arith}
use Rattle.std.specs.Prelude.{option_map}
use Rattle.std.specs.List.{AllByRecursion, sum_by}
use Rattle.std.proofs.lemmas.List.{length-map}
use Rattle.code_event.specs.Profile.{cut, deltas, profile_of, finished_of, visits_of}
use Rattle.code_event.specs.Recording.{Recording, recording, is_for}
use Rattle.code_event.specs.RecordingLaws.{ticks_for}
use Rattle.code_event.specs.Seen.{Seen, started, stopped, finished, ticked}
use Rattle.code_event.specs.Subsample.{is_due, kept_since, kept}
use Rattle.code_event.specs.declared.seen.ResolvedTick.{ResolvedTick}
use Rattle.code_event.specs.declared.profile.Finished.{Finished}
use Rattle.code_event.proofs.Recordings.{to_parts}
use Rattle.cpuprofile.specs.Given.{IsGiven, DeltasFit, HasExactTime, SeenGives}
use Rattle.cpuprofile.specs.Valid.{IsExact}
use Rattle.cpuprofile.proofs.Each.{each_cut}

abbrev IsExactTick : ResolvedTick → Type 0
IsExactTick tick = IsExact tick.time

module _ {X : Type 0} (P : X → Type 0) where
  each_first : (xs ys : List X) → AllByRecursion P (xs ++ ys) → AllByRecursion P xs
  each_first [] ys all = tt
  each_first (x ∷ xs) ys all = (all.0, each_first xs ys all.1)

  each_second : (xs ys : List X) → AllByRecursion P (xs ++ ys) → AllByRecursion P ys
  each_second [] ys all = all
  each_second (x ∷ xs) ys all = each_second xs ys all.1

  each_of : (b : Bool) (xs ys : List X) → AllByRecursion P xs → AllByRecursion P ys → AllByRecursion P (cond b xs ys)
  each_of true xs ys one other = one
  each_of false xs ys one other = other

exact_ticks_for : (number : ℕ) (seen : List Seen) → AllByRecursion HasExactTime seen → AllByRecursion IsExactTick (ticks_for number seen)
exact_ticks_for number [] all = tt
exact_ticks_for number (ticked tick ∷ seen) all =
    let rest = exact_ticks_for number seen all.1 in each_of IsExactTick (is_for number tick.only) (tick ∷ ticks_for number seen) (ticks_for number seen) (all.0, rest) rest
exact_ticks_for number (started s options time ∷ seen) all = exact_ticks_for number seen all.1
exact_ticks_for number (stopped s time reasons ∷ seen) all = exact_ticks_for number seen all.1
exact_ticks_for number (finished time files reasons ∷ seen) all = exact_ticks_for number seen all.1

exact_kept : (rounded : ℕ) (since : Option (List ResolvedTick)) (ticks : List ResolvedTick) → AllByRecursion IsExactTick ticks → AllByRecursion IsExactTick (kept_since rounded since ticks)
exact_kept rounded since [] all = tt
exact_kept rounded since (tick ∷ ticks) all =
    each_of IsExactTick (tick.interval == 0) _ _ (all.0, exact_kept rounded since ticks all.1)
    (each_of IsExactTick (is_due rounded tick.interval since) _ _ (all.0, exact_kept rounded (Some []) ticks all.1)
    (exact_kept rounded (option_map (λ before. before ++ tick ∷ []) since) ticks all.1))

exact_times : (ticks : List ResolvedTick) → AllByRecursion IsExactTick ticks → AllByRecursion IsExact (map (λ tick. tick.time) ticks)
exact_times [] all = tt
exact_times (tick ∷ ticks) all = (all.0, exact_times ticks all.1)

recorded_exact : (number : ℕ) (seen : List Seen) (told : Recording) → recording number seen ≡ Some told → AllByRecursion HasExactTime seen → AllByRecursion IsExactTick told.begun.ticks
recorded_exact number seen told e all =
    let found = to_parts seen number told e in
    let whole = subst (AllByRecursion HasExactTime) found.parts all in
    let between = (each_second HasExactTime found.before _ (each_first HasExactTime (found.before ++ _) _ whole)).1 in
    subst (AllByRecursion IsExactTick) (sym found.ticks) (exact_ticks_for number found.between between)

mapped : {X Y : Type 0} (f : X → Y) (o : Option X) (y : Y) → option_map f o ≡ Some y → (x : X) × (o ≡ Some x) × (f x ≡ y)
mapped f None y e = absurd (cc)
mapped f (Some x) y e = (x, refl, cc)

pub seen_gives : SeenGives
seen_gives base session seen profile e exact hits =
    let found = mapped (λ r. profile_of session r (kept base r.begun)) (recording session.0 seen) profile e in
    let told : Recording = found.0 in
    let ticks = kept base told.begun in
    subst IsGiven found.2
    (record {
      visits = visits_of told.begun.options.mode ticks;
      reasons = told.reasons;
      times = map (λ tick. tick.time) ticks;
      most = told.begun.options.max_samples;
      nodes = refl;
      samples = refl;
      deltas = refl;
      one_each = length-map ticks _ ∙ sym (length-map ticks _);
      exact_times = exact_times ticks (exact_kept _ None told.begun.ticks (recorded_exact session.0 seen told found.1 exact));
      exact_hits = subst (λ (p : Finished). AllByRecursion (λ node. IsExact node.hits) p.nodes) (sym found.2) hits;
    })

deltas_fit : (before : ℕ) (times : List ℕ) → AllByRecursion IsExact times → AllByRecursion (λ delta. delta < 2 ^ 63) (deltas before times)
deltas_fit before [] all = tt
deltas_fit before (time ∷ times) all = let exact = all.0 in (omega (arith, exact), deltas_fit time times all.1)

pub given_fit : (profile : Finished) → IsGiven profile → DeltasFit profile
given_fit profile g = subst (λ l. AllByRecursion (λ delta. delta < 2 ^ 63) l) (sym g.deltas) (deltas_fit profile.start (cut g.most g.times) (each_cut IsExact g.most g.times g.exact_times))
