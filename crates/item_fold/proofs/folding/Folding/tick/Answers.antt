use Rattle.std.proofs.Common.{subst, sym, refl}
use Rattle.std.specs.Prelude.{Option}
use Rattle.code_event.specs.declared.tick.Item.TheVariants as item
use Rattle.out_stream.specs.Parts.{Parts}
use Rattle.item_fold.specs.Folding.{FoldingParts, Folds}
use Rattle.item_fold.proofs.Taking.{folds_tick, folds_memory}
use Rattle.item_fold.proofs.folding.Folding.tick.Goals as goal
use Rattle.item_fold.proofs.folding.Folding.tick.Goals.{in-Ok, in-Err}

pub returns-clause-folds : goal.returns-clause-folds
returns-clause-folds c =
    let old : FoldingParts = record { attributor = c.self.inside.attributor; notes = c.self.inside.notes } in
    let new : FoldingParts = record { attributor = c.tick.new.self; notes = c.self.inside.notes } in
    subst (λ (o : FoldingParts). (parts : Option Parts) → Folds o parts (item.Tick c.args.tick.now) c.match-tick.result new parts) c.self.view_is
    (elim c.match-tick.branch [
      | in-Ok w ↦ subst (λ r. (parts : Option Parts) → Folds old parts (item.Tick c.args.tick.now) r new parts) (sym w.result-is)
          (folds_tick old new c.args.tick.now c.tick.ensures.base refl w.in-Ok.ensures.stands)
      | in-Err w ↦ subst (λ r. (parts : Option Parts) → Folds old parts (item.Tick c.args.tick.now) r new parts) (sym w.result-is)
          (folds_memory old new (item.Tick c.args.tick.now) c.tick.ensures.base)
    ])
