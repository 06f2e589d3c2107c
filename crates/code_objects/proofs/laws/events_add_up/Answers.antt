use Rattle.code_objects.proofs.Keeping.{events_add_up}
use Rattle.code_objects.proofs.laws.events_add_up.Goals as goal

pub returns : goal.returns
returns c = events_add_up
