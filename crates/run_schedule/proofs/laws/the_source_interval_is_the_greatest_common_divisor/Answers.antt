use Rattle.run_schedule.proofs.Sources.{sources_are_greatest}
use Rattle.run_schedule.proofs.laws.the_source_interval_is_the_greatest_common_divisor.Goals as goal

pub returns : goal.returns
returns c = sources_are_greatest
