use Rattle.std.proofs.Common.{Some, ◌∙◌, ap, rules}
use Rattle.std.proofs.lemmas.Fn.{filter_same}
use Rattle.prof_outer.specs.Stored.{files_of}
use Rattle.prof_outer.proofs.Removing.{has_other_name, files_of-others}
use Rattle.prof_outer.proofs.depot.SureDepot.remove.Goals as goal

pub returns-clause-removed : goal.returns-clause-removed
returns-clause-removed c =
    let name = c.args.name.now in
    let kept = filter_same _ (has_other_name name) _ (λ file b f' k. search rules) _ _ c.retain.ensures.filtered in
    ap Some (ap files_of kept ∙ files_of-others c.args.self.now.files.items name)
