use Rattle.std.proofs.Common.{◌≡◌, ◌<◌, ◌∙◌, sym, subst, refl, length, insert}
use Rattle.code_space.specs.Space.{IsCodeSize, IsSpace, IsLeastFit, inserted}
use Rattle.code_space.specs.declared.range.CodeRange.{CodeRange}
use Rattle.code_space.specs.declared.range.TheConstants.{MAX_RANGES}
use Rattle.code_space.proofs.Inserting.{space_inserted}
use Rattle.code_space.proofs.space.CodeSpace.place.Goals as goal

pub invariant_of-self-2 : goal.invariant_of-self-2
invariant_of-self-2 c =
    let start = c.least_fit-start.result in
    let new : CodeRange = record { start = start; size = c.args.size } in
    let room = subst (λ rs. length rs < MAX_RANGES) (sym c.self.view_is) c.requires.room in
    let least = subst (λ rs. IsLeastFit rs c.args.size start) c.deref.ensures.value c.least_fit-start.ensures.least in
    let ordered = subst (λ rs. insert rs c.place_of-at.result new ≡ inserted rs new) c.deref-2.ensures.value (c.place_of-at.ensures.ordered new refl) in
    let size : IsCodeSize c.args.size = record { least = c.requires.least_size; greatest = c.requires.greatest_size; whole = c.requires.whole_slots } in
    subst IsSpace (sym (c.in_ok-insert.ensures.items ∙ ordered))
    (space_inserted c.self.inside.ranges.items start c.args.size c.self.invariant room size least c.least_fit-start.ensures.aligned c.least_fit-start.ensures.within)
