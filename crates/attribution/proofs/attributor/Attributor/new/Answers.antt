use Rattle.code_map.proofs.AfterEvents.{new_maps_have_nothing}
use Rattle.attribution.specs.Attribution.{StandsFor}
use Rattle.attribution.proofs.attributor.Attributor.new.Goals as goal

pub returns-clause-stands : goal.returns-clause-stands
unfolding StandsFor
returns-clause-stands c = record {
  code = new_maps_have_nothing c.new.result c.new.ensures.ranges c.new.ensures.reasons;
  sessions = c.new-2.ensures.stands;
  times = tt;
}
