use Rattle.std.proofs.Common.{◌≡◌, subst, sym, refl, ◌∙◌}
use Rattle.std.specs.Prelude.{Option}
use Rattle.code_event.specs.declared.event.CodeEvent.TheVariants.{Start}
use Rattle.code_event.specs.declared.tick.Item.TheVariants as item
use Rattle.out_stream.specs.Parts.{Parts}
use Rattle.session_book.specs.declared.refused.StartRefused.TheVariants as start
use Rattle.item_fold.specs.Folding.{FoldingParts, FoldsEvent}
use Rattle.item_fold.proofs.Taking.{folds_start, folds_refused, folds_memory}
use Rattle.item_fold.proofs.folding.Folding.start.Goals as goal
use Rattle.item_fold.proofs.folding.Folding.start.Goals.{in-Ok, in-Err-Memory, in-Err-TooMany, in-Err-Already}

other_TooMany : start.TooMany ≡ start.Memory → ⊥
other_TooMany e = absurd (cc e)

other_Already : start.Already ≡ start.Memory → ⊥
other_Already e = absurd (cc e)

pub returns-clause-folds : goal.returns-clause-folds
returns-clause-folds c =
    let old : FoldingParts = record { attributor = c.self.inside.attributor; notes = c.self.inside.notes } in
    let new : FoldingParts = record { attributor = c.start.new.self; notes = c.self.inside.notes } in
    subst (λ (o : FoldingParts). (parts : Option Parts) → FoldsEvent o parts (Start c.args.session c.args.options c.args.time) c.match-start.result new parts) c.self.view_is
    (elim c.match-start.branch [
      | in-Ok w ↦ subst (λ r. (parts : Option Parts) → FoldsEvent old parts (Start c.args.session c.args.options c.args.time) r new parts) (sym w.result-is)
          (folds_start old new c.args.session c.args.options c.args.time c.start.ensures.base refl w.in-Ok.ensures.stands)
      | in-Err-Memory w ↦ subst (λ r. (parts : Option Parts) → FoldsEvent old parts (Start c.args.session c.args.options c.args.time) r new parts) (sym w.result-is)
          (λ parts e is. folds_memory old new (item.Event e) c.start.ensures.base parts)
      | in-Err-TooMany w ↦ subst (λ r. (parts : Option Parts) → FoldsEvent old parts (Start c.args.session c.args.options c.args.time) r new parts) (sym w.result-is)
          (folds_refused old new c.args.session c.args.options c.args.time w.in-Err-TooMany.field-0 (λ e. other_TooMany (sym w.in-Err-TooMany.field-0-is ∙ e)) w.in-Err-TooMany.ensures.refused)
      | in-Err-Already w ↦ subst (λ r. (parts : Option Parts) → FoldsEvent old parts (Start c.args.session c.args.options c.args.time) r new parts) (sym w.result-is)
          (folds_refused old new c.args.session c.args.options c.args.time w.in-Err-Already.field-0 (λ e. other_Already (sym w.in-Err-Already.field-0-is ∙ e)) w.in-Err-Already.ensures.refused)
    ])
