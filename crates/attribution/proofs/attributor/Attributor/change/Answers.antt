use Rattle.std.proofs.Common.{subst}
use Rattle.code_map.proofs.OnOk.{on_ok_both}
use Rattle.attribution.specs.Attribution.{AttributorParts, TakesEvent}
use Rattle.attribution.proofs.Taking.{takes_change}
use Rattle.attribution.proofs.attributor.Attributor.change.Goals as goal

pub returns-clause-stands : goal.returns-clause-stands
returns-clause-stands c =
    on_ok_both c.apply.result
    (λ ranges reasons. subst (λ (old : AttributorParts). TakesEvent old (record { map = c.apply.new.self; book = c.self.inside.book }) c.args.event.now) c.self.view_is
    (takes_change c.self.inside.map c.apply.new.self c.self.inside.book c.args.event.now c.requires ranges reasons))
    c.apply.ensures.ranges c.apply.ensures.reasons
