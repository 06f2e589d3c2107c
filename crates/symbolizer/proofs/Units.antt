-- A unit and those above it.
use Rattle.std.proofs.Common.{◌≡◌, ℕ, zero, suc, ◌-◌, ◌<◌, List, [], ◌∷◌, ◌++◌, reverse, flat_map, refl, ap, sym, ◌∙◌, append-nil, arith}
use Rattle.std.specs.Prelude.{Option, Some, None, option_map}
use Rattle.std.specs.Option.{option_map_or, option_to_list}
use Rattle.std.specs.List.{slice_get}
use Rattle.code_event.specs.Parts.{LayoutParts}
use Rattle.code_event.specs.Layout.{site_of, sites_above}
use Rattle.code_event.specs.Symbolizer.{unit_frame}
use Rattle.code_event.specs.declared.layout.Unit.{Unit as CodeUnit}
use Rattle.code_event.specs.declared.layout.Site.{Site}
use Rattle.code_event.specs.declared.path.PathPair.{PathPair}
use Rattle.code_event.specs.declared.seen.ResolvedFrame.{ResolvedFrame}
use Rattle.symbolizer.specs.Paths.{with_frames, unit_frames}
use Rattle.symbolizer.proofs.Frames.{with_frames-reverse}

reverse_option : {X : Type 0} (x : Option X) → reverse (option_to_list x) ≡ option_to_list x
reverse_option None = refl
reverse_option (Some x) = refl

-- a unit has at most one frame
reverse-unit_frame : (layout : LayoutParts) (number line : ℕ) → reverse (unit_frame layout number line) ≡ unit_frame layout number line
reverse-unit_frame layout number line = reverse_option (option_map (λ u. record { entry = u.entry; line = line }) (slice_get layout.units number))

-- the site of a unit, then those above the unit that it is in
pub unit_frames-some : (layout : LayoutParts) (most number line : ℕ) (site : Site) → 0 < most → site_of layout.units number ≡ Some site
    → unit_frames layout most number line ≡ unit_frame layout number line ++ unit_frames layout (most - 1) site.unit site.line
unit_frames-some layout most number line site more inlined =
    let one_more : most ≡ suc (most - 1) = omega arith in
    let rest : ℕ → List ResolvedFrame = λ n. unit_frame layout number line ++ flat_map (λ s. unit_frame layout s.unit s.line) (sites_above n layout.units number) in
    ap rest one_more
    ∙ ap (λ o. unit_frame layout number line ++ flat_map (λ s. unit_frame layout s.unit s.line) (option_map_or (λ s. s ∷ sites_above (most - 1) layout.units s.unit) o [])) inlined

none_above : (most : ℕ) (units : List CodeUnit) (number : ℕ) → site_of units number ≡ None → sites_above most units number ≡ []
none_above zero units number outer = refl
none_above (suc most) units number outer = ap (λ o. option_map_or (λ site. site ∷ sites_above most units site.unit) o []) outer

frames_of_none : (layout : LayoutParts) (most number line : ℕ) → sites_above most layout.units number ≡ [] → unit_frames layout most number line ≡ unit_frame layout number line
frames_of_none layout most number line none = ap (λ sites. unit_frame layout number line ++ flat_map (λ s. unit_frame layout s.unit s.line) sites) none ∙ append-nil (unit_frame layout number line)

-- a unit that was not inlined is alone
pub unit_frames-none : (layout : LayoutParts) (most number line : ℕ) → site_of layout.units number ≡ None → unit_frames layout most number line ≡ unit_frame layout number line
unit_frames-none layout most number line outer = frames_of_none layout most number line (none_above most layout.units number outer)

-- so is one of which no unit above is asked for
pub unit_frames-zero : (layout : LayoutParts) (most number line : ℕ) → most ≡ 0 → unit_frames layout most number line ≡ unit_frame layout number line
unit_frames-zero layout most number line no_more = ap (λ n. unit_frames layout n number line) no_more ∙ frames_of_none layout 0 number line refl

-- the paths with a unit alone
pub with_unit : (old new : PathPair) (layout : LayoutParts) (most number line : ℕ) → unit_frames layout most number line ≡ unit_frame layout number line → new ≡ with_frames old (unit_frame layout number line)
    → new ≡ with_frames old (reverse (unit_frames layout most number line))
with_unit old new layout most number line alone pushed =
    pushed ∙ ap (with_frames old) (sym (reverse-unit_frame layout number line) ∙ ap reverse (sym alone))

-- the paths with the units above and then a unit
pub with_units : (old between new : PathPair) (layout : LayoutParts) (most number line : ℕ) (site : Site) → 0 < most → site_of layout.units number ≡ Some site
    → between ≡ with_frames old (reverse (unit_frames layout (most - 1) site.unit site.line)) → new ≡ with_frames between (unit_frame layout number line)
    → new ≡ with_frames old (reverse (unit_frames layout most number line))
with_units old between new layout most number line site more inlined above pushed =
    with_frames-reverse old between new (unit_frame layout number line) (unit_frames layout (most - 1) site.unit site.line) above (pushed ∙ ap (with_frames between) (sym (reverse-unit_frame layout number line)))
    ∙ ap (λ frames. with_frames old (reverse frames)) (sym (unit_frames-some layout most number line site more inlined))
