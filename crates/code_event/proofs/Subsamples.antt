-- That a session keeps the ticks at which the intervals add up.
use Rattle.std.proofs.Common.{◌≡◌, ◌↔◌, ◌+◌, ℕ, List, [], ◌∷◌, ◌++◌, map, refl, ap, ap₂, sym, ◌∙◌, subst, inl, inr, append_assoc, eq-eqb, eqb-true, le-leb, leb-true, arith}
use Rattle.std.proofs.lemmas.Bool.{both_ways}
use Rattle.std.proofs.lemmas.Bool.Decides.{nat_tests}
use Rattle.std.proofs.lemmas.List.Sums.{sum_by_push}
use Rattle.std.proofs.Math.Bool.{and-false}
use Rattle.std.specs.Prelude.{Bool, true, false, cond, Option, Some, None, option_map, sum_by, ◌==◌, ◌&&◌, ◌||◌, nat_lt}
use Rattle.std.specs.List.{AllByRecursion}
use Rattle.code_event.proofs.EachElement.{all_of_second, all_pushed}
use Rattle.code_event.specs.RecordingLaws.{Choice, is_counted_from, AddsUp, IsToBeKept, AreChosen, chosen, SubsamplesAddUp, EachTickIsChosenOrNot}
use Rattle.code_event.specs.Subsample.{is_due, kept_since}
use Rattle.code_event.specs.declared.seen.ResolvedTick.{ResolvedTick}

-- ---- the last choice from which intervals are counted

-- None of these is counted from.
abbrev NoneCounted : List Choice → Type 0
NoneCounted choices = AllByRecursion (λ choice. is_counted_from choice ≡ false) choices

none_is_not_last : (early since : List Choice) (last : Choice) → is_counted_from last ≡ true → NoneCounted (early ++ last ∷ since) → ⊥
none_is_not_last early since last counted none =
    both_ways (is_counted_from last) (all_of_second (λ choice. is_counted_from choice ≡ false) early (last ∷ since) none).0 counted

-- There is only one last choice that is counted from, and only one list of choices since.
one_last : (early other_early since other_since : List Choice) (last other_last : Choice) → early ++ last ∷ since ≡ other_early ++ other_last ∷ other_since
    → is_counted_from last ≡ true → is_counted_from other_last ≡ true → NoneCounted since → NoneCounted other_since → since ≡ other_since
one_last [] [] since other_since last other_last same counted other_counted none other_none = cc
one_last [] (choice ∷ other_early) since other_since last other_last same counted other_counted none other_none =
    let rest : since ≡ other_early ++ other_last ∷ other_since = cc in
    absurd (none_is_not_last other_early other_since other_last other_counted (subst NoneCounted rest none))
one_last (choice ∷ early) [] since other_since last other_last same counted other_counted none other_none =
    let rest : other_since ≡ early ++ last ∷ since = cc in
    absurd (none_is_not_last early since last counted (subst NoneCounted rest other_none))
one_last (choice ∷ early) (other ∷ other_early) since other_since last other_last same counted other_counted none other_none =
    one_last early other_early since other_since last other_last (cc) counted other_counted none other_none

-- ---- the ticks since then, as the computation keeps them

-- The choice after which these ticks have come, by the sum of their intervals.
record CountsFrom (ticks : List ResolvedTick) (before : List Choice) : Type 0 where
  pub early : List Choice
  pub last : Choice
  pub since : List Choice
  pub parts : before ≡ early ++ last ∷ since
  pub is_last : is_counted_from last ≡ true
  pub none_since : NoneCounted since
  pub sum : sum_by (λ tick. tick.interval) ticks ≡ sum_by (λ choice. choice.tick.interval) since

abbrev Tells : Option (List ResolvedTick) → List Choice → Type 0
Tells None before = NoneCounted before
Tells (Some ticks) before = CountsFrom ticks before

-- whether a tick is kept after these
abbrev is_wanted : ℕ → Option (List ResolvedTick) → ResolvedTick → Bool
is_wanted rounded since tick = (tick.interval == 0) || is_due rounded tick.interval since

-- the ticks since, after one more, by whether it has interval 0 and whether it is due
abbrev next_since : Bool → Bool → Option (List ResolvedTick) → ResolvedTick → Option (List ResolvedTick)
next_since zero due since tick = cond zero since (cond due (Some []) (option_map (λ before. before ++ tick ∷ []) since))

counts_pushed : (ticks more : List ResolvedTick) (before : List Choice) (choice : Choice) → is_counted_from choice ≡ false
    → sum_by (λ tick. tick.interval) more ≡ sum_by (λ tick. tick.interval) ticks + choice.tick.interval → CountsFrom ticks before → CountsFrom more (before ++ choice ∷ [])
counts_pushed ticks more before choice uncounted sum is = record {
  early = is.early;
  last = is.last;
  since = is.since ++ choice ∷ [];
  parts = ap (λ l. l ++ choice ∷ []) is.parts ∙ append_assoc is.early (is.last ∷ is.since) (choice ∷ []);
  is_last = is.is_last;
  none_since = all_pushed (λ c. is_counted_from c ≡ false) is.since choice is.none_since uncounted;
  sum = sum ∙ ap (λ n. n + choice.tick.interval) is.sum ∙ sym (sum_by_push (λ c. c.tick.interval) is.since choice);
}

-- a choice that is not counted from has its tick among those since
tells_pushed : (since : Option (List ResolvedTick)) (before : List Choice) (choice : Choice) → is_counted_from choice ≡ false
    → Tells since before → Tells (option_map (λ ticks. ticks ++ choice.tick ∷ []) since) (before ++ choice ∷ [])
tells_pushed None before choice uncounted is = all_pushed (λ c. is_counted_from c ≡ false) before choice is uncounted
tells_pushed (Some ticks) before choice uncounted is =
    counts_pushed ticks (ticks ++ choice.tick ∷ []) before choice uncounted (sum_by_push (λ tick. tick.interval) ticks choice.tick) is

-- a choice of interval 0 may also be left out of them
tells_same : (since : Option (List ResolvedTick)) (before : List Choice) (choice : Choice) → is_counted_from choice ≡ false
    → choice.tick.interval ≡ 0 → Tells since before → Tells since (before ++ choice ∷ [])
tells_same None before choice uncounted zero is = all_pushed (λ c. is_counted_from c ≡ false) before choice is uncounted
tells_same (Some ticks) before choice uncounted zero is = counts_pushed ticks ticks before choice uncounted (omega (arith, zero)) is

-- after a choice that is counted from there are none yet
tells_none_since : (before : List Choice) (choice : Choice) → is_counted_from choice ≡ true → Tells (Some []) (before ++ choice ∷ [])
tells_none_since before choice counted = record { early = before; last = choice; since = []; parts = refl; is_last = counted; none_since = tt; sum = refl }

above_zero : (n : ℕ) → (n == 0) ≡ false → nat_lt 0 n ≡ true
above_zero n some = grind (arith, nat_tests)

tells_next : (since : Option (List ResolvedTick)) (before : List Choice) (choice : Choice) (zero due : Bool) → (choice.tick.interval == 0) ≡ zero
    → choice.is_kept ≡ (zero || due) → Tells since before → Tells (next_since zero due since choice.tick) (before ++ choice ∷ [])
tells_next since before choice true due is_zero kept is =
    let none : choice.tick.interval ≡ 0 = eqb-true choice.tick.interval 0 is_zero in
    tells_same since before choice (ap (λ n. choice.is_kept && nat_lt 0 n) none ∙ and-false choice.is_kept) none is
tells_next since before choice false true some kept is = tells_none_since before choice (ap₂ (λ a b. a && b) kept (above_zero choice.tick.interval some))
tells_next since before choice false false some kept is = tells_pushed since before choice (ap (λ b. b && nat_lt 0 choice.tick.interval) kept) is

-- ---- that the computed test is the one by sums

adds_up : (rounded : ℕ) (ticks : List ResolvedTick) (before : List Choice) (tick : ResolvedTick) → CountsFrom ticks before
    → is_due rounded tick.interval (Some ticks) ≡ true → AddsUp rounded before tick
adds_up rounded ticks before tick is due = record {
  early = is.early;
  last = is.last;
  since = is.since;
  parts = is.parts;
  is_last = is.is_last;
  none_since = is.none_since;
  enough = omega (arith, leb-true rounded (sum_by (λ t. t.interval) ticks + tick.interval) due, is.sum);
}

wanted_is_to_be_kept : (rounded : ℕ) (since : Option (List ResolvedTick)) (before : List Choice) (tick : ResolvedTick) (zero : Bool) → (tick.interval == 0) ≡ zero
    → Tells since before → (zero || is_due rounded tick.interval since) ≡ true → IsToBeKept rounded before tick
wanted_is_to_be_kept rounded since before tick true is_zero is wanted = inl (eqb-true tick.interval 0 is_zero)
wanted_is_to_be_kept rounded None before tick false some is wanted = inr (inl is)
wanted_is_to_be_kept rounded (Some ticks) before tick false some is wanted = inr (inr (adds_up rounded ticks before tick is wanted))

-- where the intervals add up, they are counted from the same last choice, and the tick is due
due_if_adds_up : (rounded : ℕ) (since : Option (List ResolvedTick)) (before : List Choice) (tick : ResolvedTick) → Tells since before
    → AddsUp rounded before tick → is_due rounded tick.interval since ≡ true
due_if_adds_up rounded None before tick is adds = refl
due_if_adds_up rounded (Some ticks) before tick is adds =
    let same : is.since ≡ adds.since = one_last is.early adds.early is.since adds.since is.last adds.last (sym is.parts ∙ adds.parts) is.is_last adds.is_last is.none_since adds.none_since in
    let sums : sum_by (λ t. t.interval) ticks ≡ sum_by (λ c. c.tick.interval) adds.since = is.sum ∙ ap (sum_by (λ c. c.tick.interval)) same in
    le-leb rounded (sum_by (λ t. t.interval) ticks + tick.interval) (omega (arith, adds.enough, sums))

due_if_none : (rounded : ℕ) (since : Option (List ResolvedTick)) (before : List Choice) (tick : ResolvedTick) → Tells since before
    → NoneCounted before → is_due rounded tick.interval since ≡ true
due_if_none rounded None before tick is none = refl
due_if_none rounded (Some ticks) before tick is none = absurd (none_is_not_last is.early is.since is.last is.is_last (subst NoneCounted is.parts none))

or_second : (a b : Bool) → b ≡ true → (a || b) ≡ true
or_second true b e = refl
or_second false b e = e

to_be_kept_is_wanted : (rounded : ℕ) (since : Option (List ResolvedTick)) (before : List Choice) (tick : ResolvedTick) → Tells since before
    → IsToBeKept rounded before tick → is_wanted rounded since tick ≡ true
to_be_kept_is_wanted rounded since before tick is (inl zero) = ap (λ b. b || is_due rounded tick.interval since) (eq-eqb tick.interval 0 zero)
to_be_kept_is_wanted rounded since before tick is (inr (inl none)) = or_second (tick.interval == 0) _ (due_if_none rounded since before tick is none)
to_be_kept_is_wanted rounded since before tick is (inr (inr adds)) = or_second (tick.interval == 0) _ (due_if_adds_up rounded since before tick is adds)

wanted_by_sums : (rounded : ℕ) (since : Option (List ResolvedTick)) (before : List Choice) (tick : ResolvedTick) → Tells since before
    → (is_wanted rounded since tick ≡ true) ↔ IsToBeKept rounded before tick
wanted_by_sums rounded since before tick is =
    (wanted_is_to_be_kept rounded since before tick (tick.interval == 0) refl is, to_be_kept_is_wanted rounded since before tick is)

-- ---- the laws

-- the ticks since, after this one
abbrev since_after : ℕ → Option (List ResolvedTick) → ResolvedTick → Option (List ResolvedTick)
since_after rounded since tick = next_since (tick.interval == 0) (is_due rounded tick.interval since) since tick

kept_by_tests : (rounded : ℕ) (since : Option (List ResolvedTick)) (tick : ResolvedTick) (ticks : List ResolvedTick) (zero due : Bool)
    → cond zero (tick ∷ kept_since rounded since ticks) (cond due (tick ∷ kept_since rounded (Some []) ticks) (kept_since rounded (option_map (λ before. before ++ tick ∷ []) since) ticks))
    ≡ cond (zero || due) (tick ∷ kept_since rounded (next_since zero due since tick) ticks) (kept_since rounded (next_since zero due since tick) ticks)
kept_by_tests rounded since tick ticks true due = refl
kept_by_tests rounded since tick ticks false true = refl
kept_by_tests rounded since tick ticks false false = refl

same_bool : (a b : Bool) → (a ≡ true → b ≡ true) → (b ≡ true → a ≡ true) → a ≡ b
same_bool true b one other = sym (one refl)
same_bool false true one other = other refl
same_bool false false one other = refl

kept_behind : (rounded : ℕ) (since : Option (List ResolvedTick)) (before choices : List Choice) → Tells since before → AreChosen rounded before choices
    → kept_since rounded since (map (λ choice. choice.tick) choices) ≡ chosen choices
kept_behind rounded since before [] is are = refl
kept_behind rounded since before (choice ∷ choices) is are =
    let tests = wanted_by_sums rounded since before choice.tick is in
    let kept : choice.is_kept ≡ is_wanted rounded since choice.tick = same_bool _ _ (λ k. tests.1 (are.0.0 k)) (λ w. are.0.1 (tests.0 w)) in
    let told = tells_next since before choice (choice.tick.interval == 0) (is_due rounded choice.tick.interval since) refl kept is in
    let rest = kept_behind rounded (since_after rounded since choice.tick) (before ++ choice ∷ []) choices told are.1 in
    kept_by_tests rounded since choice.tick (map (λ c. c.tick) choices) (choice.tick.interval == 0) (is_due rounded choice.tick.interval since)
    ∙ ap₂ (λ b ticks. cond b (choice.tick ∷ ticks) ticks) (sym kept) rest

pub subsamples_add_up : SubsamplesAddUp
subsamples_add_up rounded choices are = kept_behind rounded None [] choices tt are

choices_behind : (rounded : ℕ) (since : Option (List ResolvedTick)) (before : List Choice) (ticks : List ResolvedTick) → Tells since before
    → (choices : List Choice) × (map (λ choice. choice.tick) choices ≡ ticks) × AreChosen rounded before choices
choices_behind rounded since before [] is = ([], refl, tt)
choices_behind rounded since before (tick ∷ ticks) is =
    let choice : Choice = record { tick = tick; is_kept = is_wanted rounded since tick } in
    let told = tells_next since before choice (tick.interval == 0) (is_due rounded tick.interval since) refl refl is in
    let rest = choices_behind rounded (since_after rounded since tick) (before ++ choice ∷ []) ticks told in
    (choice ∷ rest.0, ap (λ l. tick ∷ l) rest.1, (wanted_by_sums rounded since before tick is, rest.2))

pub each_tick_is_chosen_or_not : EachTickIsChosenOrNot
each_tick_is_chosen_or_not rounded ticks = choices_behind rounded None [] ticks tt
