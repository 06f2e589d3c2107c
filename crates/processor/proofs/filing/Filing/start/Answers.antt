use Rattle.std.proofs.Common.{true, refl, sym, subst, ◌∙◌}
use Rattle.std.specs.Prelude.{Option}
use Rattle.code_event.specs.declared.event.CodeEvent.TheVariants.{Start}
use Rattle.out_stream.specs.Parts.{Parts}
use Rattle.processor.specs.Filing.{FilingParts, FilesEvent}
use Rattle.processor.proofs.FiledItems.{files_start, of_ok}
use Rattle.processor.proofs.filing.Filing.start.Goals as goal

pub returns-then-self-clause-files : goal.returns-then-self-clause-files
returns-then-self-clause-files c =
    let new : FilingParts = record { attributor = c.self.inside.attributor; running = c.start.new.self; notes = c.self.inside.notes.items; delivery = c.self.inside.delivery; is_spent = c.self.inside.is_spent } in
    subst (λ (o : FilingParts). (parts : Option Parts) → FilesEvent o parts (Start c.args.session c.args.options c.args.time) new parts) c.self.view_is
    (files_start _ new c.args.session c.args.options c.args.time refl refl refl (λ room. room) c.start.ensures (λ room. absurd (cc (sym c.if-self.true ∙ room))))

pub returns-then-is_err-clause-files : goal.returns-then-is_err-clause-files
returns-then-is_err-clause-files c =
    let new : FilingParts = record { attributor = c.start-2.new.self; running = c.start.new.self; notes = c.self.inside.notes.items; delivery = c.self.inside.delivery; is_spent = true } in
    subst (λ (o : FilingParts). (parts : Option Parts) → FilesEvent o parts (Start c.args.session c.args.options c.args.time) new parts) c.self.view_is
    (files_start _ new c.args.session c.args.options c.args.time c.start-2.ensures.base refl refl (λ room. absurd (cc room)) c.start.ensures (λ room. absurd (cc room)))

pub returns-else-is_err-clause-files : goal.returns-else-is_err-clause-files
returns-else-is_err-clause-files c =
    let new : FilingParts = record { attributor = c.start-2.new.self; running = c.start.new.self; notes = c.self.inside.notes.items; delivery = c.self.inside.delivery; is_spent = c.self.inside.is_spent } in
    subst (λ (o : FilingParts). (parts : Option Parts) → FilesEvent o parts (Start c.args.session c.args.options c.args.time) new parts) c.self.view_is
    (files_start _ new c.args.session c.args.options c.args.time c.start-2.ensures.base refl refl (λ room. room) c.start.ensures (λ room. of_ok c.start-2.result (sym c.is_err.ensures.value ∙ c.if-is_err.false) c.start-2.ensures.stands))
