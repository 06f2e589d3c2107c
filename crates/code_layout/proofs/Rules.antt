-- That small layouts keep the rules of layouts.
use Rattle.std.proofs.Common.{◌≡◌, ℕ, zero, suc, ◌+◌, ◌<◌, ◌≤◌, List, [], ◌∷◌, length, inl, inr, refl, ap, ◌∙◌, sym, subst, arith}
use Rattle.std.proofs.lemmas.Bool.{cases_lt}
use Rattle.std.proofs.lemmas.Option.{slice_get_past}
use Rattle.std.specs.Prelude.{Some, None}
use Rattle.std.specs.Option.{option_map_or, option_and_then}
use Rattle.std.specs.List.{slice_get, AllByRecursion}
use Rattle.guest_program.specs.InlinedSize.{inlined_size}
use Rattle.guest_program.specs.declared.instr.Func.{Func}
use Rattle.code_event.specs.Layout.{sites_above, HasParent, HaveParents, IsLayout}
use Rattle.code_event.specs.Parts.{LayoutParts}
use Rattle.code_event.specs.declared.layout.Unit.{Unit as CodeUnit}
use Rattle.code_event.specs.declared.layout.Slot.{Slot}
use Rattle.code_layout.specs.Layouts.{unit_of, expanded, layout_to}
use Rattle.code_layout.specs.Laws.{IsUnitOf, IsSlotOf, IsCodeOf, SmallIsLayout}
use Rattle.code_layout.proofs.Counting.{slots_are_counted, expanded_few}
use Rattle.code_layout.proofs.Expanding.{get_there, layouts_are_code}

has_parent : (funcs : List Func) (depth : ℕ) (layout : LayoutParts) (number : ℕ) (u : CodeUnit) → IsUnitOf funcs depth layout number u → (number ≡ 0 → u.parent ≡ None) → HasParent number u
has_parent funcs depth layout zero u is none = none refl
has_parent funcs depth layout (suc before) u is none = elim is.inlined [ inl zero_is ↦ absurd (omega (arith, zero_is)) | inr some ↦ (some.0, some.1, some.2) ]

have_parents : (number : ℕ) (units : List CodeUnit) → ((place : ℕ) (u : CodeUnit) → slice_get units place ≡ Some u → HasParent (number + place) u) → HaveParents number units
have_parents number [] each = tt
have_parents number (u ∷ units) each =
    let here : number + 0 ≡ number = omega arith in (
      subst (λ n. HasParent n u) here (each 0 u refl),
      have_parents (suc number) units (λ place v is. let later : number + suc place ≡ suc number + place = omega arith in subst (λ n. HasParent n v) later (each (suc place) v is)),
    )

not_deep : (funcs : List Func) (depth func : ℕ) (layout : LayoutParts) → IsCodeOf funcs depth func layout → depth ≤ 4 → (number : ℕ) → length (sites_above 5 layout.units number) ≤ 4
not_deep funcs depth func layout code low number = elim (cases_lt number (length layout.units)) [
  | inl less ↦ (let u = get_there layout.units number less in let few = (code.units number u.0 u.1).shallow 5 in omega (arith, few, low))
  | inr past ↦ (let none : sites_above 5 layout.units number ≡ [] = ap (λ o. option_map_or (λ s. s ∷ sites_above 4 layout.units s.unit) (option_and_then (λ v. v.parent) o) []) (slice_get_past layout.units number past) in
      let size : length (sites_above 5 layout.units number) ≡ 0 = ap length none in omega (arith, size))
]

slots_in_units : (funcs : List Func) (layout : LayoutParts) (slots : List Slot) → AllByRecursion (IsSlotOf funcs layout) slots → AllByRecursion (λ slot. slot.unit < length layout.units) slots
slots_in_units funcs layout [] all = tt
slots_in_units funcs layout (slot ∷ slots) all = (all.0.0, slots_in_units funcs layout slots all.1)

code_is_layout : (funcs : List Func) (depth func : ℕ) (layout : LayoutParts) → IsCodeOf funcs depth func layout → depth ≤ 4 → 1 ≤ length layout.slots → length layout.slots ≤ 4096
    → 1 ≤ length layout.units → length layout.units ≤ 4096 → IsLayout layout
code_is_layout funcs depth func layout code low some_slots few_slots some_units few_units = record {
  some_units = some_units;
  few_units = few_units;
  some_slots = some_slots;
  few_slots = few_slots;
  parents = have_parents 0 layout.units (λ place u is.
      let here : place ≡ 0 + place = omega arith in
      subst (λ n. HasParent n u) here (has_parent funcs depth layout place u (code.units place u is) (λ first.
      let same : Some u ≡ Some (unit_of funcs func None) = sym is ∙ ap (slice_get layout.units) first ∙ code.first in
      let it : u ≡ unit_of funcs func None = grind arith in ap (λ (v : CodeUnit). v.parent) it)));
  not_deep = not_deep funcs depth func layout code low;
  slots_in_units = slots_in_units funcs layout layout.slots code.slots;
}

-- there are at most as many units as slots
pub units_are_few : (funcs : List Func) (depth number : ℕ) → length (layout_to funcs depth number).units ≤ length (layout_to funcs depth number).slots → inlined_size funcs depth number ≤ 4096
    → length (layout_to funcs depth number).units ≤ 4096
units_are_few funcs depth number few small = let size = slots_are_counted funcs depth number in omega (arith, few, size, small)

pub small_is_layout : SmallIsLayout
small_is_layout funcs depth number program there low small =
    let layout = layout_to funcs depth number in
    let size = slots_are_counted funcs depth number in
    let few : suc (length (expanded funcs depth number 0).units) ≤ length (expanded funcs depth number 0).slots = expanded_few funcs program depth number 0 there in
    code_is_layout funcs depth number layout (layouts_are_code funcs depth number program there) low (omega (arith, few)) (omega (arith, size, small)) (omega arith) (omega (arith, few, size, small))
