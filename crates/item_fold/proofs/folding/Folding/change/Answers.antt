use Rattle.std.proofs.Common.{subst, sym, refl}
use Rattle.std.specs.Prelude.{Option}
use Rattle.out_stream.specs.Parts.{Parts}
use Rattle.item_fold.specs.Folding.{FoldingParts, FoldsEvent}
use Rattle.item_fold.proofs.Taking.{folds_change, folds_memory}
use Rattle.item_fold.proofs.folding.Folding.change.Goals as goal
use Rattle.item_fold.proofs.folding.Folding.change.Goals.{in-Ok, in-Err}
use Rattle.code_event.specs.declared.tick.Item.TheVariants as item

pub returns-clause-folds : goal.returns-clause-folds
returns-clause-folds c =
    let old : FoldingParts = record { attributor = c.self.inside.attributor; notes = c.self.inside.notes } in
    let new : FoldingParts = record { attributor = c.change.new.self; notes = c.self.inside.notes } in
    subst (λ (o : FoldingParts). (parts : Option Parts) → FoldsEvent o parts c.args.event.now c.match-change.result new parts) c.self.view_is
    (elim c.match-change.branch [
      | in-Ok w ↦ subst (λ r. (parts : Option Parts) → FoldsEvent old parts c.args.event.now r new parts) (sym w.result-is)
          (folds_change old new c.args.event.now c.requires c.change.ensures.base refl w.in-Ok.ensures.stands)
      | in-Err w ↦ subst (λ r. (parts : Option Parts) → FoldsEvent old parts c.args.event.now r new parts) (sym w.result-is)
          (λ parts e is. folds_memory old new (item.Event e) c.change.ensures.base parts)
    ])
