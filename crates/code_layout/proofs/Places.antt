-- The table of the places of slots, one slot after the other, from the last to the first.
use Rattle.std.proofs.Common.{◌≡◌, ℕ, zero, suc, ◌<◌, List, [], ◌∷◌, ◌++◌, length, get_or, drop, drop-cons, ap, ap₂, ◌∙◌, sym, subst, refl, arith}
use Rattle.std.proofs.lemmas.Bool.{cond-true, cond-false, eq-eqb, eqb-true}
use Rattle.std.proofs.lemmas.Option.{slice_get-get_or}
use Rattle.std.specs.Option.{option_and_then, option_map_or}
use Rattle.std.specs.List.{slice_get, AllByRecursion}
use Rattle.std.specs.Prelude.{Bool, true, false, Option, Some, None, cond, ◌==◌, ◌&&◌, slice_set}
use Rattle.std.specs.Global.{Vec}
use Rattle.code_event.specs.declared.layout.Slot.{Slot}
use Rattle.code_layout.specs.Laws.{slot_from}
use Rattle.code_layout.specs.Places.{entry, row_at}

-- the rows have the places of these slots, of which the first has this place
abbrev pub HavePlaces : List (Vec (Option ℕ)) → ℕ → List Slot → Type 0
HavePlaces rows place slots = (unit index : ℕ) → entry (row_at rows unit) index ≡ slot_from place slots unit index

-- nothing more is found where nothing was put
pub entry_padded : (row : List (Option ℕ)) (index : ℕ) → entry (row ++ None ∷ []) index ≡ entry row index
entry_padded [] zero = refl
entry_padded [] (suc index) = refl
entry_padded (first ∷ row) zero = refl
entry_padded (first ∷ row) (suc index) = entry_padded row index

-- what is at an index of a list of which one element was set
get_here : {X : Type 0} (xs : List X) (at : ℕ) (x : X) → at < length xs → slice_get (slice_set xs at x) at ≡ Some x
get_here [] at x less = absurd (omega (arith, less))
get_here (first ∷ xs) zero x less = refl
get_here (first ∷ xs) (suc at) x less = get_here xs at x (omega (arith, less))

get_there : {X : Type 0} (xs : List X) (at other : ℕ) (x : X) → (at ≡ other → ⊥) → slice_get (slice_set xs at x) other ≡ slice_get xs other
get_there [] at other x apart = refl
get_there (first ∷ xs) zero zero x apart = absurd (apart refl)
get_there (first ∷ xs) zero (suc other) x apart = refl
get_there (first ∷ xs) (suc at) zero x apart = refl
get_there (first ∷ xs) (suc at) (suc other) x apart = get_there xs at other x (λ same. apart (ap suc same))

get_set : {X : Type 0} (xs : List X) (at other : ℕ) (x : X) → at < length xs → slice_get (slice_set xs at x) other ≡ cond (at == other) (Some x) (slice_get xs other)
get_set xs at other x less = by_test (at == other) refl
  where
    by_test : (b : Bool) → (at == other) ≡ b → slice_get (slice_set xs at x) other ≡ cond (at == other) (Some x) (slice_get xs other)
    by_test true is =
        ap (slice_get (slice_set xs at x)) (sym (eqb-true at other is)) ∙ get_here xs at x less ∙ sym (cond-true (at == other) (Some x) (slice_get xs other) is)
    by_test false is =
        get_there xs at other x (λ same. let both : true ≡ false = sym (eq-eqb at other same) ∙ is in absurd (cc both)) ∙ sym (cond-false (at == other) (Some x) (slice_get xs other) is)

entry_if : (b : Bool) (place : ℕ) (o : Option (Option ℕ)) → option_and_then (λ p. p) (cond b (Some (Some place)) o) ≡ cond b (Some place) (option_and_then (λ p. p) o)
entry_if true place o = refl
entry_if false place o = refl

pub entry_set : (row : List (Option ℕ)) (at place other : ℕ) → at < length row → entry (slice_set row at (Some place)) other ≡ cond (at == other) (Some place) (entry row other)
entry_set row at place other less = ap (option_and_then (λ p. p)) (get_set row at other (Some place) less) ∙ entry_if (at == other) place (slice_get row other)

row_pushed : (rows : List (Vec (Option ℕ))) (row : Vec (Option ℕ)) (unit : ℕ) → row.items ≡ [] → ((u : ℕ) → row_at rows u ≡ []) → row_at (rows ++ row ∷ []) unit ≡ []
row_pushed [] row zero none empty = none
row_pushed [] row (suc unit) none empty = refl
row_pushed (first ∷ rows) row zero none empty = empty 0
row_pushed (first ∷ rows) row (suc unit) none empty = row_pushed rows row unit none (λ u. empty (suc u))

pub rows_pushed : (rows : List (Vec (Option ℕ))) (row : Vec (Option ℕ)) → row.items ≡ [] → ((u : ℕ) → row_at rows u ≡ []) → (unit : ℕ) → row_at (rows ++ row ∷ []) unit ≡ []
rows_pushed rows row none empty unit = row_pushed rows row unit none empty

row_if : (b : Bool) (row : Vec (Option ℕ)) (o : Option (Vec (Option ℕ))) → option_map_or (λ (r : Vec (Option ℕ)). r.items) (cond b (Some row) o) [] ≡ cond b row.items (option_map_or (λ (r : Vec (Option ℕ)). r.items) o [])
row_if true row o = refl
row_if false row o = refl

row_set : (rows : List (Vec (Option ℕ))) (at unit : ℕ) (row : Vec (Option ℕ)) → at < length rows → row_at (slice_set rows at row) unit ≡ cond (at == unit) row.items (row_at rows unit)
row_set rows at unit row less = ap (λ o. option_map_or (λ (r : Vec (Option ℕ)). r.items) o []) (get_set rows at unit row less) ∙ row_if (at == unit) row (slice_get rows unit)

-- what is found after a place was put
put_in : (b c : Bool) (new old other : List (Option ℕ)) (place index : ℕ) → (b ≡ true → old ≡ other) → entry new index ≡ cond c (Some place) (entry old index)
    → entry (cond b new other) index ≡ cond (b && c) (Some place) (entry other index)
put_in true c new old other place index same is = is ∙ ap (λ o. cond c (Some place) (entry o index)) (same refl)
put_in false c new old other place index same is = refl

pub one_slot_more : (slots : List Slot) (rows : List (Vec (Option ℕ))) (row d : Vec (Option ℕ)) (before place at unit index : ℕ) (none : Slot) → before ≡ suc place → place < length slots → at ≡ place
    → unit ≡ (get_or slots at none).unit → index ≡ (get_or slots at none).index → unit < length rows
    → ((other : ℕ) → entry row.items other ≡ cond (index == other) (Some place) (entry (get_or rows unit d).items other))
    → HavePlaces rows before (drop before slots) → HavePlaces (slice_set rows unit row) place (drop place slots)
one_slot_more slots rows row d before place at unit index none next within same unit_is index_is there puts has = λ u i.
    let slot = get_or slots at none in
    let cut : drop place slots ≡ slot ∷ drop (suc place) slots = drop-cons slots place none within ∙ ap (λ n. get_or slots n none ∷ drop (suc place) slots) (sym same) in
    let later : entry (row_at rows u) i ≡ slot_from (suc place) (drop (suc place) slots) u i = subst (λ b. entry (row_at rows u) i ≡ slot_from b (drop b slots) u i) next (has u i) in
    let own : row_at rows unit ≡ (get_or rows unit d).items = ap (λ o. option_map_or (λ (r : Vec (Option ℕ)). r.items) o []) (slice_get-get_or rows unit d there) in
    ap (λ r. entry r i) (row_set rows unit u row there)
    ∙ put_in (unit == u) (index == i) row.items (get_or rows unit d).items (row_at rows u) place i (λ is. sym own ∙ ap (row_at rows) (eqb-true unit u is)) (puts i)
    ∙ ap₂ (λ b o. cond b (Some place) o) (ap₂ (λ a b. a == u && b == i) unit_is index_is) later
    ∙ sym (ap (λ ss. slot_from place ss u i) cut)

-- each slot's unit is there
pub unit_there : (slots all : List Slot) (count at : ℕ) (none : Slot) → AllByRecursion (λ slot. slot.unit < count) all → slots ≡ all → at < length slots → (get_or slots at none).unit < count
unit_there slots all count at none each same less = subst (λ ss. at < length ss → (get_or ss at none).unit < count) (sym same) (by_place all at each) less
  where
    by_place : (all : List Slot) (at : ℕ) → AllByRecursion (λ slot. slot.unit < count) all → at < length all → (get_or all at none).unit < count
    by_place [] at each less = absurd (omega (arith, less))
    by_place (slot ∷ more) zero each less = each.0
    by_place (slot ∷ more) (suc at) each less = by_place more at each.1 (omega (arith, less))
