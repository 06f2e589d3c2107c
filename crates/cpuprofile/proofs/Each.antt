-- What holds of each element of a list.
use Rattle.std.proofs.Common.{◌≡◌, ℕ, zero, suc, ◌≤◌, List, [], ◌∷◌, ◌++◌, inl, inr, map, take, length, Option, Some, None, refl, ap, subst, arith, length-take}
use Rattle.std.specs.List.{AllByRecursion, sum_by}
use Rattle.std.proofs.lemmas.List.Sums.{sum_by-cons}
use Rattle.code_event.specs.Profile.{cut}
use Rattle.prof_base.proofs.Ordered.{Has}

module _ {X : Type 0} where
  pub each_has : (P : X → Type 0) (xs : List X) (x : X) → AllByRecursion P xs → Has xs x → P x
  each_has P [] x all h = absurd h
  each_has P (y ∷ xs) x all (inl e) = subst P e all.0
  each_has P (y ∷ xs) x all (inr h) = each_has P xs x all.1 h

  pub each_from : (P : X → Type 0) (xs : List X) → ((x : X) → Has xs x → P x) → AllByRecursion P xs
  each_from P [] all = tt
  each_from P (x ∷ xs) all = (all x (inl refl), each_from P xs (λ y h. all y (inr h)))

  pub each_push : (P : X → Type 0) (xs : List X) (x : X) → AllByRecursion P xs → P x → AllByRecursion P (xs ++ x ∷ [])
  each_push P [] x all last = (last, tt)
  each_push P (y ∷ xs) x all last = (all.0, each_push P xs x all.1 last)

  pub each_take : (P : X → Type 0) (count : ℕ) (xs : List X) → AllByRecursion P xs → AllByRecursion P (take count xs)
  each_take P zero xs all = tt
  each_take P (suc count) [] all = tt
  each_take P (suc count) (x ∷ xs) all = (all.0, each_take P count xs all.1)

  pub each_cut : (P : X → Type 0) (most : Option ℕ) (xs : List X) → AllByRecursion P xs → AllByRecursion P (cut most xs)
  each_cut P None xs all = all
  each_cut P (Some count) xs all = each_take P count xs all

  pub has_within_sum : (f : X → ℕ) (xs : List X) (x : X) → Has xs x → f x ≤ sum_by f xs
  has_within_sum f [] x h = absurd h
  has_within_sum f (y ∷ xs) x (inl e) = omega (arith, sum_by-cons f y xs, ap f e)
  has_within_sum f (y ∷ xs) x (inr h) = omega (arith, sum_by-cons f y xs, has_within_sum f xs x h)

pub each_map : {X Y : Type 0} (f : X → Y) (P : Y → Type 0) (xs : List X) → ((x : X) → Has xs x → P (f x)) → AllByRecursion P (map f xs)
each_map f P [] all = tt
each_map f P (x ∷ xs) all = (all x (inl refl), each_map f P xs (λ y h. all y (inr h)))

pub map_has : {X Y : Type 0} (f : X → Y) (xs : List X) (x : X) → Has xs x → Has (map f xs) (f x)
map_has f [] x h = absurd h
map_has f (y ∷ xs) x (inl e) = inl (ap f e)
map_has f (y ∷ xs) x (inr h) = inr (map_has f xs x h)

pub cut_alike : {X Y : Type 0} (most : Option ℕ) (xs : List X) (ys : List Y) → length xs ≡ length ys → length (cut most xs) ≡ length (cut most ys)
cut_alike None xs ys e = e
cut_alike (Some count) xs ys e = omega (arith, length-take count xs, length-take count ys, e)
