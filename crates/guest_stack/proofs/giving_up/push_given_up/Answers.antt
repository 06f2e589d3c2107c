use Rattle.std.proofs.Common.{◌≡◌, ap₂, ◌∙◌, sym}
use Rattle.std.proofs.lemmas.Option.{slice_get_past}
use Rattle.std.specs.Prelude.{None}
use Rattle.std.specs.List.{slice_get}
use Rattle.guest_stack.proofs.GivenUpFrames.{given_up_by-none}
use Rattle.guest_stack.proofs.giving_up.push_given_up.Goals as goal

pub returns-in-None : goal.returns-in-None
returns-in-None c =
    let none : slice_get c.args.layout.now.slots c.args.frame.slot ≡ None =
    ap₂ slice_get (sym c.slots.ensures.slots) (sym c.from.ensures) ∙ slice_get_past c.slots.result.now c.from.result c.in-None.ensures.lookup.3 in
    given_up_by-none c.args.layout.now c.args.func.0 c.args.frame c.args.frames.now.items (sym c.is_optimised_of.ensures ∙ c.if-not-is_optimised_of.false) none
