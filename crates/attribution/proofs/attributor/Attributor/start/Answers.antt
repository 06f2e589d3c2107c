use Rattle.std.proofs.Common.{subst}
use Rattle.std.proofs.lemmas.Result.{on_ok_weaker}
use Rattle.code_event.specs.declared.event.CodeEvent.TheVariants.{Start}
use Rattle.attribution.specs.Attribution.{AttributorParts, TakesEvent}
use Rattle.attribution.proofs.Taking.{takes_start}
use Rattle.attribution.proofs.attributor.Attributor.start.Goals as goal

pub returns-clause-stands : goal.returns-clause-stands
returns-clause-stands c =
    on_ok_weaker c.start.result
    (λ stands. subst (λ (old : AttributorParts). TakesEvent old (record { map = c.self.inside.map; book = c.start.new.self }) (Start c.args.id c.args.options c.args.time)) c.self.view_is
    (takes_start c.self.inside.map c.self.inside.book c.start.new.self c.args.id c.args.options c.args.time stands))
    c.start.ensures.stands
