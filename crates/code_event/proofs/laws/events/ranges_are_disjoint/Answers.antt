use Rattle.code_event.proofs.Disjoint.{always_disjoint, meeting_is_mutual, one_owner}
use Rattle.code_event.proofs.laws.events.ranges_are_disjoint.Goals as goal

pub returns : goal.returns
returns c = record { disjoint = always_disjoint; both_ways = meeting_is_mutual; one_owner = one_owner }
