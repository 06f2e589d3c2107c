use Rattle.std.proofs.Common.{◌≡◌, List, ◌∷◌, [], ◌++◌, subst}
use Rattle.std.specs.Prelude.{Some}
use Rattle.code_event.specs.ItemFile.{item_file}
use Rattle.code_event.specs.declared.event.CodeEvent.TheVariants.{Stop}
use Rattle.code_event.specs.declared.event.EventRecord.{EventRecord}
use Rattle.code_event.specs.declared.tick.Item.{Item}
use Rattle.code_event.specs.declared.tick.Item.TheVariants as item
use Rattle.attribution.specs.Attribution.{AttributorParts, StandsFor, TakesEvent, HasNotEnded}
use Rattle.attribution.proofs.Taking.{takes_stop}
use Rattle.attribution.proofs.Stopping.{file_of_stop}
use Rattle.attribution.proofs.attributor.Attributor.stop.Goals as goal

pub returns-in-Ok-clause-stands : goal.returns-in-Ok-clause-stands
returns-in-Ok-clause-stands c =
    subst (λ (old : AttributorParts). TakesEvent old (record { map = c.self.inside.map; book = c.stop.new.self }) (Stop c.args.id c.args.time)) c.self.view_is
    (takes_stop c.self.inside.map c.self.inside.book c.stop.new.self c.args.id c.args.time c.in_ok-finished.ensures.stands)

pub returns-in-Ok-clause-file : goal.returns-in-Ok-clause-file
returns-in-Ok-clause-file c =
    subst
    (λ (old : AttributorParts). (items : List Item) (e : EventRecord) → e.event ≡ Stop c.args.id c.args.time → StandsFor old items → HasNotEnded c.args.id.0 items
    → item_file old.book.base (items ++ item.Event e ∷ []) c.args.id ≡ Some c.in-Ok.file.items)
    c.self.view_is
    (file_of_stop c.self.inside.map c.stop.new.self c.self.inside.book c.args.id c.args.time c.in_ok-finished.finished c.in-Ok.file.items c.in_ok-finished.ensures.finished c.in_ok-finished.ensures.few_hits c.in-Ok.ensures.text)
