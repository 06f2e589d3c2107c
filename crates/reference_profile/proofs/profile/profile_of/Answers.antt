use Rattle.std.proofs.Common.{◌∙◌, ap, map}
use Rattle.code_event.specs.DeoptReasons.{reasons_in}
use Rattle.code_event.specs.Tree.{nodes, id_of, fin_node}
use Rattle.code_event.specs.Profile.{cut, deltas}
use Rattle.reference_profile.proofs.Profiles.{cut_map, profile_is}
use Rattle.reference_profile.proofs.profile.profile_of.Goals as goal

pub returns : goal.returns
returns c =
    let visits = c.in_ok-visits.visits in
    let set = c.in_ok-set.set.items in
    let most = c.args.recording.now.begun.options.max_samples in
    profile_is c.args.session c.args.recording.now c.args.ticks.now visits set c.in_ok-nodes.nodes c.in_ok-samples.samples c.in_ok-deltas.deltas
    c.in_ok-visits.ensures
    (c.in_ok-set.ensures ∙ ap nodes c.as_slice.ensures)
    (c.in_ok-nodes.ensures
    ∙ ap (λ set. map (fin_node set c.as_slice-3.result.now (reasons_in c.as_slice-4.result.now)) set) c.as_slice-2.ensures.value
    ∙ ap (λ visits. map (fin_node set visits (reasons_in c.as_slice-4.result.now)) set) c.as_slice-3.ensures
    ∙ ap (λ reasons. map (fin_node set visits (reasons_in reasons)) set) c.as_slice-4.ensures)
    (c.in_ok-samples.ensures
    ∙ ap (λ set. cut most (map (λ visit. id_of set visit.path) c.as_slice-6.result.now)) c.as_slice-5.ensures.value
    ∙ ap (λ visits. cut most (map (λ visit. id_of set visit.path) visits)) c.as_slice-6.ensures)
    (c.in_ok-deltas.ensures ∙ ap (deltas c.args.recording.now.begun.start) (cut_map (λ tick. tick.time) most c.args.ticks.now c.listed-last.result c.listed-last.ensures.value))
