use Rattle.code_event.proofs.Stamping.{gives_stamps}
use Rattle.code_event.proofs.laws.events.stamping_gives_stamps.Goals as goal

pub returns : goal.returns
returns c = gives_stamps
