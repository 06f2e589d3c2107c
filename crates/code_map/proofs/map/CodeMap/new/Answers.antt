use Rattle.std.proofs.Common.{[], refl, ap}
use Rattle.code_event.specs.DeoptReasons.{reasons_in}
use Rattle.code_map.specs.CodeMap.{HasRanges, HasReasons}
use Rattle.code_map.proofs.map.CodeMap.new.Goals as goal

pub returns-clause-ranges : goal.returns-clause-ranges
unfolding HasRanges
returns-clause-ranges c = record { are = c.new.ensures.items; code = tt; history = []; left = refl }

pub returns-clause-reasons : goal.returns-clause-reasons
unfolding HasReasons
returns-clause-reasons c = λ entry. ap (λ reasons. reasons_in reasons entry) c.new-2.ensures.items
