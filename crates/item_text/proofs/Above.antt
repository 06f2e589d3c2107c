-- How many units are above a unit, where further units come after it.
use Rattle.std.proofs.Common.{◌≡◌, ◌∙◌, ℕ, zero, suc, ◌+◌, ◌<◌, ◌≤◌, List, [], ◌∷◌, ◌++◌, length, get_or, Bool, true, false, ◌==◌, nat_le, nat_lt, ◌||◌, Option, Some, None, refl, sym, ap, subst, arith, length-append, inl, inr}
use Rattle.std.specs.Option.{option_map_or}
use Rattle.std.specs.List.{slice_get, AllByRecursion}
use Rattle.std.proofs.lemmas.Bool.{or_parts, cases_lt, eqb-true}
use Rattle.std.proofs.lemmas.Bool.Decides.{nat_tests}
use Rattle.std.proofs.lemmas.Option.{slice_get-get_or}
use Rattle.std.proofs.lemmas.List.{get_or_append_left}
use Rattle.std.proofs.Math.Seq.{get_or-append_seam}
use Rattle.code_event.specs.declared.layout.Site.{Site}
use Rattle.code_event.specs.declared.layout.Slot.{Slot}
use Rattle.code_event.specs.declared.layout.Unit.{Unit as CodeUnit}
use Rattle.code_event.specs.declared.layout.TheConstants.Layout.{MAX_UNITS, MAX_ABOVE}
use Rattle.code_event.specs.Layout.{site_of, sites_above, HasParent, HaveParents}
use Rattle.item_text.specs.ItemLine.{IsParent}
use Rattle.item_text.specs.ItemRules.{BegunCode, is_none, units_above, is_late_parent, unit_breaks_limit, with_unit}
use Rattle.item_text.specs.ItemDraft.{AreAbove, IsBegun}

get_before : (units : List CodeUnit) (u : CodeUnit) (j : ℕ) → j < length units → slice_get (units ++ u ∷ []) j ≡ slice_get units j
get_before units u j h =
    slice_get-get_or (units ++ u ∷ []) j u (omega (arith, h, length-append units (u ∷ [])))
    ∙ ap (λ (x : CodeUnit). Some x) (get_or_append_left units (u ∷ []) u j h)
    ∙ sym (slice_get-get_or units j u h)

get_last : (units : List CodeUnit) (u : CodeUnit) → slice_get (units ++ u ∷ []) (length units) ≡ Some u
get_last units u =
    slice_get-get_or (units ++ u ∷ []) (length units) u (omega (arith, length-append units (u ∷ [])))
    ∙ ap (λ (x : CodeUnit). Some x) (get_or-append_seam units u [] u)

site_before : (units : List CodeUnit) (u : CodeUnit) (j : ℕ) → j < length units → site_of (units ++ u ∷ []) j ≡ site_of units j
site_before units u j h = rw (get_before units u j h) refl

site_last : (units : List CodeUnit) (u : CodeUnit) → site_of (units ++ u ∷ []) (length units) ≡ u.parent
site_last units u = rw (get_last units u) refl

parent_is_smaller : (number : ℕ) (u : CodeUnit) (site : Site) → HasParent number u → u.parent ≡ Some site → site.unit < number
parent_is_smaller zero u site has is = absurd cc
parent_is_smaller (suc before) u site has is = let same : has.0 ≡ site = cc in subst (λ (s : Site). s.unit < suc before) same has.2

-- a unit's parent comes before it
parents_are_smaller : (number : ℕ) (units : List CodeUnit) (j : ℕ) (site : Site) → HaveParents number units → site_of units j ≡ Some site → site.unit < number + j
parents_are_smaller number [] j site have is = absurd cc
parents_are_smaller number (u ∷ units) zero site have is = omega (arith, parent_is_smaller number u site have.0 is)
parents_are_smaller number (u ∷ units) (suc j) site have is = omega (arith, parents_are_smaller (suc number) units j site have.1 is)

sites_by : (most : ℕ) (units : List CodeUnit) (u : CodeUnit) (m : Option Site) → ((site : Site) → m ≡ Some site → sites_above most (units ++ u ∷ []) site.unit ≡ sites_above most units site.unit)
    → option_map_or (λ site. site ∷ sites_above most (units ++ u ∷ []) site.unit) m [] ≡ option_map_or (λ site. site ∷ sites_above most units site.unit) m []
sites_by most units u None same = refl
sites_by most units u (Some site) same = ap (λ (z : List Site). site ∷ z) (same site refl)

-- a further unit is above none of those before it
sites_before : (most : ℕ) (units : List CodeUnit) (u : CodeUnit) (j : ℕ) → HaveParents 0 units → j < length units → sites_above most (units ++ u ∷ []) j ≡ sites_above most units j
sites_before zero units u j have h = refl
sites_before (suc most) units u j have h =
    rw (site_before units u j h)
    (sites_by most units u (site_of units j) (λ site is. sites_before most units u site.unit have (let smaller = parents_are_smaller 0 units j site have is in omega (arith, smaller, h))))

fewer_by : (most : ℕ) (units : List CodeUnit) (m : Option Site) → length (option_map_or (λ site. site ∷ sites_above most units site.unit) m []) ≤ most
    → ((p : ℕ) → suc (length (sites_above most units p)) ≤ most → (n : ℕ) → most ≡ suc n → sites_above n units p ≡ sites_above most units p)
    → (n : ℕ) → most ≡ suc n → option_map_or (λ site. site ∷ sites_above n units site.unit) m [] ≡ option_map_or (λ site. site ∷ sites_above most units site.unit) m []
fewer_by most units None h later n is = refl
fewer_by most units (Some site) h later n is = ap (λ (z : List Site). site ∷ z) (later site.unit h n is)

none_by : (units : List CodeUnit) (m : Option Site) → length (option_map_or (λ site. site ∷ sites_above 0 units site.unit) m []) ≤ 0 → [] ≡ option_map_or (λ site. site ∷ sites_above 0 units site.unit) m []
none_by units None h = refl
none_by units (Some site) h = absurd (omega (arith, h))

-- where there are at most this many, no more are found by looking further
fewer : (n : ℕ) (units : List CodeUnit) (p : ℕ) → length (sites_above (suc n) units p) ≤ n → sites_above n units p ≡ sites_above (suc n) units p
fewer zero units p h = none_by units (site_of units p) h
fewer (suc n) units p h =
    fewer_by (suc n) units (site_of units p) h
    (λ q few m is. let same : m ≡ n = omega (arith, is) in subst (λ (z : ℕ). sites_above z units q ≡ sites_above (suc n) units q) (sym same) (fewer n units q (omega (arith, few))))
    n refl

pub above_none : (units : List CodeUnit) (u : CodeUnit) → u.parent ≡ None → units_above (units ++ u ∷ []) (length units) ≡ 0
above_none units u is = rw (site_last units u, is) refl

pub above_some : (units : List CodeUnit) (u : CodeUnit) (site : Site) → u.parent ≡ Some site → HaveParents 0 units → site.unit < length units → units_above units site.unit ≤ MAX_ABOVE
    → units_above (units ++ u ∷ []) (length units) ≡ suc (units_above units site.unit)
above_some units u site is have small few =
    ap (λ (m : Option Site). length (option_map_or (λ s. s ∷ sites_above MAX_ABOVE (units ++ u ∷ []) s.unit) m [])) (site_last units u ∙ is)
    ∙ ap (λ (z : List Site). suc (length z)) (sites_before MAX_ABOVE units u site.unit have small ∙ fewer MAX_ABOVE units site.unit few)

-- a parent that is not late comes before
pub parent_before : (n : ℕ) (parent : Option Site) (site : Site) → parent ≡ Some site → option_map_or (λ s. nat_le n s.unit) parent false ≡ false → site.unit < n
parent_before n None site is late = absurd cc
parent_before n (Some other) site is late =
    let same : other ≡ site = cc in
    let before : other.unit < n = grind (arith, nat_tests, late) in
    subst (λ (s : Site). s.unit < n) same before

any_default : (xs : List ℕ) (i d e : ℕ) → i < length xs → get_or xs i d ≡ get_or xs i e
any_default [] i d e h = absurd (omega (arith, h))
any_default (x ∷ xs) zero d e h = refl
any_default (x ∷ xs) (suc i) d e h = any_default xs i d e (omega (arith, h))

-- the number that is kept for the parent
pub above_by : (units : List CodeUnit) (above : List ℕ) (u : CodeUnit) (site : Site) (at n : ℕ) → u.parent ≡ Some site → HaveParents 0 units → AreAbove units above → site.unit < length units → at ≡ site.unit
    → n ≡ get_or above at n → n + 1 ≡ units_above (units ++ u ∷ []) (length units)
above_by units above u site at n is have are small place kept =
    let each = are.each site.unit small in
    let few : units_above units site.unit ≤ MAX_ABOVE = omega (arith, each, are.few site.unit small) in
    let zeroed : n ≡ get_or above site.unit 0 = kept ∙ ap (λ (z : ℕ). get_or above z n) place ∙ any_default above site.unit n 0 (omega (arith, small, are.same)) in
    omega (arith, zeroed, each, above_some units u site is have small few)

parents_push : (k n : ℕ) (units : List CodeUnit) (u : CodeUnit) → n ≡ k + length units → HasParent n u → HaveParents k units → HaveParents k (units ++ u ∷ [])
parents_push k n [] u is has have = let same : n ≡ k = omega (arith, is) in (subst (λ (z : ℕ). HasParent z u) same has, tt)
parents_push k n (first ∷ units) u is has have = (have.0, parents_push (suc k) n units u (omega (arith, is)) has have.1)

has_parent : (n : ℕ) (first : Bool) (u : CodeUnit) (parent : Option Site) → (n == 0) ≡ first → u.parent ≡ parent → IsParent first parent → option_map_or (λ site. nat_le n site.unit) parent false ≡ false → HasParent n u
has_parent zero true u None e is fits late = is
has_parent zero true u (Some site) e is fits late = absurd fits
has_parent zero false u parent e is fits late = absurd cc
has_parent (suc n) true u parent e is fits late = absurd (omega (arith, eqb-true (suc n) 0 e))
has_parent (suc n) false u None e is fits late = absurd fits
has_parent (suc n) false u (Some site) e is fits late = (site, is, parent_before (suc n) (Some site) site refl late)

slots_stay : (n m : ℕ) (slots : List Slot) → n ≤ m → AllByRecursion (λ slot. slot.unit < n) slots → AllByRecursion (λ slot. slot.unit < m) slots
slots_stay n m [] le all = tt
slots_stay n m (slot ∷ slots) le all = (omega (arith, le, all.0), slots_stay n m slots le all.1)

above_each : (units : List CodeUnit) (above : List ℕ) (u : CodeUnit) (n : ℕ) → HaveParents 0 units → AreAbove units above → n ≡ units_above (units ++ u ∷ []) (length units)
    → (i : ℕ) → i < length (units ++ u ∷ []) → get_or (above ++ n ∷ []) i 0 ≡ units_above (units ++ u ∷ []) i
above_each units above u n have are is i h = elim (cases_lt i (length units)) [
  | inl lt ↦
      get_or_append_left above (n ∷ []) 0 i (omega (arith, lt, are.same)) ∙ are.each i lt
      ∙ ap (λ (z : List Site). length z) (sym (sites_before (suc MAX_ABOVE) units u i have lt))
  | inr le ↦
      let last : i ≡ length units = omega (arith, h, length-append units (u ∷ []), le) in
      let place : i ≡ length above = omega (arith, last, are.same) in
      ap (λ (z : ℕ). get_or (above ++ n ∷ []) z 0) place ∙ get_or-append_seam above n [] 0 ∙ is ∙ ap (λ (z : ℕ). units_above (units ++ u ∷ []) z) (sym last)
]

above_few : (units : List CodeUnit) (above : List ℕ) (u : CodeUnit) (n : ℕ) → AreAbove units above → n ≤ MAX_ABOVE → (i : ℕ) → i < length (units ++ u ∷ []) → get_or (above ++ n ∷ []) i 0 ≤ MAX_ABOVE
above_few units above u n are few i h = elim (cases_lt i (length units)) [
  | inl lt ↦ let same = get_or_append_left above (n ∷ []) 0 i (omega (arith, lt, are.same)) in omega (arith, same, are.few i lt)
  | inr le ↦
      let place : i ≡ length above = omega (arith, h, length-append units (u ∷ []), le, are.same) in
      let same : get_or (above ++ n ∷ []) i 0 ≡ n = ap (λ (z : ℕ). get_or (above ++ n ∷ []) z 0) place ∙ get_or-append_seam above n [] 0 in
      omega (arith, same, few)
]

-- what is kept of the units with one more
pub begun_with_unit : (code : BegunCode) (above : List ℕ) (u : CodeUnit) (n : ℕ) → IsBegun code × AreAbove code.units above → unit_breaks_limit code u ≡ false → IsParent (is_none code.units) u.parent
    → n ≡ units_above (code.units ++ u ∷ []) (length code.units) → IsBegun (with_unit code u) × AreAbove (code.units ++ u ∷ []) (above ++ n ∷ [])
begun_with_unit code above u n kept limit parent is =
    let size = length-append code.units (u ∷ []) in
    let a = or_parts (nat_le MAX_UNITS (length code.units) || is_late_parent code u) (nat_lt MAX_ABOVE (units_above (code.units ++ u ∷ []) (length code.units))) limit in
    let b = or_parts (nat_le MAX_UNITS (length code.units)) (is_late_parent code u) a.0 in
    let has : HasParent (length code.units) u = has_parent (length code.units) (is_none code.units) u u.parent refl refl parent b.1 in
    let room : length code.units < MAX_UNITS = grind (arith, nat_tests, b.0) in
    let shallow : units_above (code.units ++ u ∷ []) (length code.units) ≤ MAX_ABOVE = grind (arith, nat_tests, a.1) in (
      record {
        few_units = omega (arith, size, room);
        few_slots = kept.0.few_slots;
        parents = parents_push 0 (length code.units) code.units u (omega arith) has kept.0.parents;
        slots_in_units = slots_stay (length code.units) (length (code.units ++ u ∷ [])) code.slots (omega (arith, size)) kept.0.slots_in_units;
      },
      record {
        same = omega (arith, size, length-append above (n ∷ []), kept.1.same);
        each = above_each code.units above u n kept.0.parents kept.1 is;
        few = above_few code.units above u n kept.1 (omega (arith, is, shallow));
      },
    )
