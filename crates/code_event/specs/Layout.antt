-- What a layout is.
use Rattle.std.specs.Prelude.{◌≡◌, ℕ, zero, suc, ◌<◌, ◌≤◌, List, [], ◌∷◌, length, Option, Some, None, option_and_then}
use Rattle.std.specs.Option.{option_map_or}
use Rattle.std.specs.List.{slice_get, AllByRecursion}
use Rattle.code_event.specs.declared.layout.Unit.{Unit as CodeUnit}
use Rattle.code_event.specs.declared.layout.Site.{Site}
use Rattle.code_event.specs.Parts.{LayoutParts}
use Rattle.code_event.specs.declared.layout.TheConstants.Layout.{MAX_UNITS, MAX_SLOTS, MAX_ABOVE}

-- where the unit with this number was inlined, if it was
abbrev pub site_of : List CodeUnit → ℕ → Option Site
site_of units number = option_and_then (λ u. u.parent) (slice_get units number)

-- where the unit with this number was inlined, where the one above it was, and so on, at most this many
abbrev pub sites_above : ℕ → List CodeUnit → ℕ → List Site
sites_above zero units number = []
sites_above (suc most) units number = option_map_or (λ site. site ∷ sites_above most units site.unit) (site_of units number) []

-- the parent of the unit with this number has a smaller one, and only unit 0 has none
abbrev pub HasParent : ℕ → CodeUnit → Type 0
HasParent zero u = u.parent ≡ None
HasParent (suc before) u = (site : Site) × (u.parent ≡ Some site) × (site.unit < suc before)

-- this holds of these units, of which the first has this number
abbrev pub HaveParents : ℕ → List CodeUnit → Type 0
HaveParents number [] = Unit {0}
HaveParents number (u ∷ units) = HasParent number u × HaveParents (suc number) units

-- the rules of a layout
pub record IsLayout (layout : LayoutParts) : Type 0 where
  pub some_units : 1 ≤ length layout.units
  pub few_units : length layout.units ≤ MAX_UNITS
  pub some_slots : 1 ≤ length layout.slots
  pub few_slots : length layout.slots ≤ MAX_SLOTS
  pub parents : HaveParents 0 layout.units
  pub not_deep : (number : ℕ) → length (sites_above (suc MAX_ABOVE) layout.units number) ≤ MAX_ABOVE
  pub slots_in_units : AllByRecursion (λ slot. slot.unit < length layout.units) layout.slots
