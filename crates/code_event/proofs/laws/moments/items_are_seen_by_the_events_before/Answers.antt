use Rattle.code_event.proofs.SeenMore.{seen_by_the_events_before}
use Rattle.code_event.proofs.laws.moments.items_are_seen_by_the_events_before.Goals as goal

pub returns : goal.returns
returns c = seen_by_the_events_before
