use Rattle.std.proofs.Common.{◌∙◌, ap, arith}
use Rattle.code_event.specs.Tree.{id_of}
use Rattle.reference_profile.proofs.Profiles.{map_step}
use Rattle.reference_profile.proofs.profile.ids.Goals as goal

pub loop-visit-preserved : goal.loop-visit-preserved
loop-visit-preserved c =
    map_step (λ visit. id_of c.args.nodes.now visit.path) c.args.visits.now c.loop-visit.visit-index c.visit-item.result c.loop-visit.found c.push.new.self c.in_ok-id_of.field-0 (omega arith)
    c.visit-item.is c.loop-visit.invariant c.in_ok-push.ensures.ok (c.in_ok-id_of.ensures ∙ ap (id_of c.args.nodes.now) c.as_slice.ensures)
