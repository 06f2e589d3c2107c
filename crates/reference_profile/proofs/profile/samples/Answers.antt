use Rattle.std.proofs.Common.{◌≡◌, subst, IfOk}
use Rattle.code_event.specs.Tree.{id_of}
use Rattle.reference_profile.proofs.Profiles.{cut_map}
use Rattle.reference_profile.proofs.profile.samples.Goals as goal

pub returns : goal.returns
returns c =
    subst (λ ids. IfOk c.ids.result (λ found. found ≡ ids))
    (cut_map (λ visit. id_of c.args.nodes.now visit.path) c.args.most c.args.visits.now c.listed.result c.listed.ensures.value)
    c.ids.ensures
