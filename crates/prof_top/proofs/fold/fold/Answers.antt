use Rattle.std.proofs.Common.{inl, inr, refl, rules}
use Rattle.item_text.proofs.LegalItems.{kept_lists_are_legal}
use Rattle.prof_top.proofs.Folds.{delivered_as, fold_done}
use Rattle.prof_top.proofs.fold.fold.Goals as goal
use Rattle.prof_top.specs.Ending.{status_of}

pub fold_items-folded-requires-clause-legal : goal.fold_items-folded-requires-clause-legal
fold_items-folded-requires-clause-legal g c = search (rules, kept_lists_are_legal c.args.list.now c.requires.rules)

pub returns-in_default-clause-worked : goal.returns-in_default-clause-worked
returns-in_default-clause-worked g c puts puts' = inr (inl (refl, record { none = refl; parts = refl; written = refl }))

pub returns-clause-worked : goal.returns-clause-worked
returns-clause-worked g c puts puts' =
    let folded = c.fold_items-folded in
    inl (fold_done c.args.list.now c.as_slice-items.result.now _ (status_of c.print_out.result) c.as_bytes.result.now _ _ (search rules) refl (search rules)
    (c.print_out.ensures.handed puts puts' _ _ _ _ _ _ _
    (delivered_as _ folded.result.delivered folded.result.notes c.as_slice-notes.result.now _ _ _ _ _ _ (search rules) folded.ensures.delivers folded.ensures.aborted folded.ensures.failed)))
