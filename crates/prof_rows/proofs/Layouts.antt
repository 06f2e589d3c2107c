-- Layouts of one function, and of two of which one is inlined in the other.
use Rattle.std.proofs.Common.{◌≡◌, ℕ, zero, suc, ◌<◌, ◌≤◌, List, [], ◌∷◌, ◌++◌, length, refl, ap, sym, subst, ◌∙◌, arith}
use Rattle.std.specs.Prelude.{Some, None}
use Rattle.std.specs.Option.{option_map_or}
use Rattle.std.specs.List.{AllByRecursion}
use Rattle.code_event.specs.Layout.{IsLayout, site_of, sites_above}
use Rattle.code_event.specs.declared.layout.Unit.{Unit as CodeUnit}
use Rattle.code_event.specs.declared.layout.Slot.{Slot}
use Rattle.code_event.specs.declared.layout.Site.{Site}
use Rattle.code_event.specs.declared.layout.TheConstants.Layout.{MAX_SLOTS, MAX_ABOVE}

-- no site above a unit that was not inlined
none_above : (most : ℕ) (units : List CodeUnit) (number : ℕ) → site_of units number ≡ None → sites_above most units number ≡ []
none_above zero units number outer = refl
none_above (suc most) units number outer = ap (λ o. option_map_or (λ site. site ∷ sites_above most units site.unit) o []) outer

not_deep_if : (units : List CodeUnit) (number : ℕ) → site_of units number ≡ None → length (sites_above (suc MAX_ABOVE) units number) ≤ MAX_ABOVE
not_deep_if units number outer = let none : length (sites_above (suc MAX_ABOVE) units number) ≡ 0 = ap length (none_above (suc MAX_ABOVE) units number outer) in omega arith

alone_not_deep : (u : CodeUnit) → u.parent ≡ None → (number : ℕ) → length (sites_above (suc MAX_ABOVE) (u ∷ []) number) ≤ MAX_ABOVE
alone_not_deep u outer zero = not_deep_if (u ∷ []) 0 outer
alone_not_deep u outer (suc number) = not_deep_if (u ∷ []) (suc number) refl

-- the layout of one function
alone : (u : CodeUnit) (slots : List Slot) → u.parent ≡ None → 1 ≤ length slots → length slots ≤ MAX_SLOTS → AllByRecursion (λ slot. slot.unit < 1) slots
    → IsLayout (record { units = u ∷ []; slots = slots })
alone u slots outer some few each = record {
  some_units = omega arith;
  few_units = omega arith;
  some_slots = some;
  few_slots = few;
  parents = (outer, tt);
  not_deep = alone_not_deep u outer;
  slots_in_units = each;
}

-- its unit was pushed
pub alone_pushed : (none units : List CodeUnit) (u : CodeUnit) (slots : List Slot) → none ≡ [] → units ≡ none ++ u ∷ [] → u.parent ≡ None
    → 1 ≤ length slots → length slots ≤ MAX_SLOTS → AllByRecursion (λ slot. slot.unit < 1) slots → IsLayout (record { units = units; slots = slots })
alone_pushed none units u slots empty pushed outer some few each =
    subst (λ us. IsLayout (record { units = us; slots = slots })) (sym (pushed ∙ ap (λ us. us ++ u ∷ []) empty)) (alone u slots outer some few each)

inlined_not_deep : (u inner : CodeUnit) (site : Site) → u.parent ≡ None → inner.parent ≡ Some site → site.unit ≡ 0
    → (number : ℕ) → length (sites_above (suc MAX_ABOVE) (u ∷ inner ∷ []) number) ≤ MAX_ABOVE
inlined_not_deep u inner site outer inlined first zero = not_deep_if (u ∷ inner ∷ []) 0 outer
inlined_not_deep u inner site outer inlined first (suc zero) =
    let units : List CodeUnit = u ∷ inner ∷ [] in
    let above : sites_above (suc MAX_ABOVE) units 1 ≡ site ∷ [] =
    ap (λ o. option_map_or (λ s. s ∷ sites_above MAX_ABOVE units s.unit) o []) inlined
    ∙ ap (λ sites. site ∷ sites) (ap (sites_above MAX_ABOVE units) first ∙ none_above MAX_ABOVE units 0 outer) in
    let one : length (sites_above (suc MAX_ABOVE) units 1) ≡ 1 = ap length above in
    omega arith
inlined_not_deep u inner site outer inlined first (suc (suc number)) = not_deep_if (u ∷ inner ∷ []) (suc (suc number)) refl

-- the layout of a function with another inlined, of which the units were pushed
pub inlined_pushed : (none one units : List CodeUnit) (u inner : CodeUnit) (site : Site) (slots : List Slot) → none ≡ [] → one ≡ none ++ u ∷ [] → units ≡ one ++ inner ∷ []
    → u.parent ≡ None → inner.parent ≡ Some site → site.unit ≡ 0 → 1 ≤ length slots → length slots ≤ MAX_SLOTS → AllByRecursion (λ slot. slot.unit < 2) slots
    → IsLayout (record { units = units; slots = slots })
inlined_pushed none one units u inner site slots empty first second outer inlined at_first some few each =
    subst (λ us. IsLayout (record { units = us; slots = slots })) (sym (second ∙ ap (λ us. us ++ inner ∷ []) (first ∙ ap (λ us. us ++ u ∷ []) empty))) (record {
      some_units = omega arith;
      few_units = omega arith;
      some_slots = some;
      few_slots = few;
      parents = (outer, ((site, inlined, omega arith), tt));
      not_deep = inlined_not_deep u inner site outer inlined at_first;
      slots_in_units = each;
    })
