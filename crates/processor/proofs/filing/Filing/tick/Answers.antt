use Rattle.std.proofs.Common.{◌≡◌, true, refl, sym, subst, ◌∙◌}
use Rattle.std.specs.Prelude.{Option}
use Rattle.code_event.specs.declared.tick.Item.TheVariants as item
use Rattle.out_stream.specs.Parts.{Parts}
use Rattle.processor.specs.Filing.{FilingParts, Files}
use Rattle.processor.proofs.FiledItems.{files_tick, of_ok}
use Rattle.processor.proofs.filing.Filing.tick.Goals as goal

pub returns-then-self-clause-files : goal.returns-then-self-clause-files
returns-then-self-clause-files c =
    files_tick c.args.self.now c.args.self.now c.args.tick.now refl refl refl (λ room. room) refl
    (λ room. absurd (cc (sym c.if-self.true ∙ spent_is c.self.view_is ∙ room)))
  where
    spent_is : {a b : FilingParts} → a ≡ b → a.is_spent ≡ b.is_spent
    spent_is same = λ i. (same i).is_spent

pub returns-then-is_err-clause-files : goal.returns-then-is_err-clause-files
returns-then-is_err-clause-files c =
    let new : FilingParts = record { attributor = c.tick.new.self; running = c.self.inside.running; notes = c.self.inside.notes.items; delivery = c.self.inside.delivery; is_spent = true } in
    subst (λ (o : FilingParts). (parts : Option Parts) → Files o parts (item.Tick c.args.tick.now) new parts) c.self.view_is
    (files_tick _ new c.args.tick.now c.tick.ensures.base refl refl (λ room. absurd (cc room)) refl (λ room. absurd (cc room)))

pub returns-else-is_err-clause-files : goal.returns-else-is_err-clause-files
returns-else-is_err-clause-files c =
    let new : FilingParts = record { attributor = c.tick.new.self; running = c.self.inside.running; notes = c.self.inside.notes.items; delivery = c.self.inside.delivery; is_spent = c.self.inside.is_spent } in
    subst (λ (o : FilingParts). (parts : Option Parts) → Files o parts (item.Tick c.args.tick.now) new parts) c.self.view_is
    (files_tick _ new c.args.tick.now c.tick.ensures.base refl refl (λ room. room) refl
    (λ room. of_ok c.tick.result (sym c.is_err.ensures.value ∙ c.if-is_err.false) c.tick.ensures.stands))
