-- The walk from a unit to those above it.
use Rattle.std.proofs.Common.{◌≡◌, ◌∙◌, sym, ap, ℕ, suc, ◌+◌, ◌-◌, ◌<◌, List, [], ◌∷◌, ◌++◌, flat_map, Some, None, append_assoc, append-nil, arith}
use Rattle.std.specs.Option.{option_map, option_map_or, option_to_list}
use Rattle.std.specs.List.{slice_get}
use Rattle.code_event.specs.Parts.{LayoutParts}
use Rattle.code_event.specs.Layout.{site_of, sites_above}
use Rattle.code_event.specs.Symbolizer.{unit_frame}
use Rattle.code_event.specs.declared.layout.Unit.{Unit as CodeUnit}
use Rattle.code_event.specs.declared.layout.Site.{Site}
use Rattle.code_event.specs.declared.layout.TheConstants.Layout.{MAX_ABOVE}
use Rattle.code_event.specs.declared.seen.ResolvedFrame.{ResolvedFrame}

-- the units at these sites, each at the site's line
abbrev pub frames_of_sites : LayoutParts → List Site → List ResolvedFrame
frames_of_sites layout sites = flat_map (λ site. unit_frame layout site.unit site.line) sites

-- the site of a unit, then those above its own unit
pub sites_above_some : (most fewer : ℕ) (units : List CodeUnit) (number : ℕ) (site : Site) → most ≡ suc fewer → site_of units number ≡ Some site → sites_above most units number ≡ site ∷ sites_above fewer units site.unit
sites_above_some most fewer units number site e h =
    ap (λ n. sites_above n units number) e ∙ ap (λ o. option_map_or (λ s. s ∷ sites_above fewer units s.unit) o []) h

-- the frames with those of the units above, after this many of them
abbrev pub with_above : List ResolvedFrame → LayoutParts → ℕ → ℕ → List ResolvedFrame
with_above frames layout passed number = frames ++ frames_of_sites layout (sites_above (MAX_ABOVE - passed) layout.units number)

-- one more unit was passed
pub with_above_some : (frames : List ResolvedFrame) (layout : LayoutParts) (passed number : ℕ) (site : Site) → passed < MAX_ABOVE → site_of layout.units number ≡ Some site → with_above frames layout passed number ≡ with_above (frames ++ unit_frame layout site.unit site.line) layout (passed + 1) site.unit
with_above_some frames layout passed number site low h =
    let one_more : MAX_ABOVE - passed ≡ suc (MAX_ABOVE - (passed + 1)) = omega arith in
    ap (λ sites. frames ++ frames_of_sites layout sites) (sites_above_some (MAX_ABOVE - passed) (MAX_ABOVE - (passed + 1)) layout.units number site one_more h)
    ∙ sym (append_assoc frames (unit_frame layout site.unit site.line) (frames_of_sites layout (sites_above (MAX_ABOVE - (passed + 1)) layout.units site.unit)))

-- a unit that does not exist adds nothing
pub unit_frame_none : (frames : List ResolvedFrame) (layout : LayoutParts) (number line : ℕ) → slice_get layout.units number ≡ None → frames ++ unit_frame layout number line ≡ frames
unit_frame_none frames layout number line h =
    ap (λ u. frames ++ option_to_list (option_map (λ (u : CodeUnit). record { entry = u.entry; line = line }) u)) h ∙ append-nil frames
