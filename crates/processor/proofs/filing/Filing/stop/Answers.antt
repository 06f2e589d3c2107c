use Rattle.std.proofs.Common.{◌≡◌, sym, ap, subst, ◌∙◌}
use Rattle.attribution.specs.Attribution.{AttributorParts, TakesEvent}
use Rattle.code_event.specs.declared.event.CodeEvent.TheVariants.{Stop}
use Rattle.processor.specs.Filing.{FilingParts, HasFiled, AtStop}
use Rattle.processor.proofs.Stopped.{IsTextOf, stopped_whole, stopped_lost, room_before, delivered_of}
use Rattle.processor.proofs.filing.Filing.stop.Goals as goal

pub returns-in-Some-clause-files : goal.returns-in-Some-clause-files
returns-in-Some-clause-files g c =
    let old : FilingParts = record { attributor = c.self.inside.attributor; running = c.self.inside.running; notes = c.self.inside.notes.items; delivery = c.self.inside.delivery; is_spent = c.self.inside.is_spent } in
    let mid : FilingParts = c.deliver.new.self in
    let new : FilingParts = c.hand_over.new.self in
    let parts = g.S.OutputStream.parts c.args.stream.now in
    let parts' = g.S.OutputStream.parts c.deliver.new.stream in
    let same : new.attributor ≡ c.text_of.new.self.attributor = c.hand_over.ensures.attributor ∙ c.deliver.ensures.attributor in
    subst (λ (o : FilingParts). AtStop o parts c.args.session c.args.time (λ base items before. HasFiled base items new before parts')) c.self.view_is
    (stopped_whole old mid new c.args.session c.args.time c.deref.result.now parts parts' c.in-Some.ensures.was_spent
    (c.hand_over.ensures.running ∙ c.deliver.ensures.running ∙ c.in-Some.ensures.running ∙ c.stop-port.ensures.others)
    (ap (λ (a : AttributorParts). a.book.base) same ∙ c.in-Some.ensures.base)
    (subst (λ (a : AttributorParts). TakesEvent old.attributor a (Stop c.args.session c.args.time)) (sym same) c.in-Some.ensures.stands)
    (subst (IsTextOf old c.args.session c.args.time) (sym c.deref.ensures.value) c.in-Some.ensures.text)
    c.hand_over.ensures.notes c.hand_over.ensures.delivery (room_before mid.is_spent new.is_spent c.hand_over.ensures.spent)
    (λ files before h. c.deliver.ensures.delivers files before
    (delivered_of files old.delivery c.text_of.new.self.delivery old.notes c.text_of.new.self.notes before parts c.in-Some.ensures.delivery c.in-Some.ensures.notes h)))

pub returns-in-None-clause-files : goal.returns-in-None-clause-files
returns-in-None-clause-files g c =
    let old : FilingParts = record { attributor = c.self.inside.attributor; running = c.self.inside.running; notes = c.self.inside.notes.items; delivery = c.self.inside.delivery; is_spent = c.self.inside.is_spent } in
    let new : FilingParts = c.hand_over-in-None.new.self in
    let parts = g.S.OutputStream.parts c.args.stream.now in
    subst (λ (o : FilingParts). AtStop o parts c.args.session c.args.time (λ base items before. HasFiled base items new before parts)) c.self.view_is
    (stopped_lost old new c.args.session c.args.time parts (c.hand_over-in-None.ensures.spent c.in-None.ensures.spent)
    (c.hand_over-in-None.ensures.running ∙ c.in-None.ensures.running ∙ c.stop-port.ensures.others)
    (ap (λ (a : AttributorParts). a.book.base) c.hand_over-in-None.ensures.attributor ∙ c.in-None.ensures.base)
    (c.hand_over-in-None.ensures.notes ∙ c.in-None.ensures.notes) (c.hand_over-in-None.ensures.delivery ∙ c.in-None.ensures.delivery))
