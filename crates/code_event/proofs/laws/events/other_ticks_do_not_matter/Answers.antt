use Rattle.code_event.proofs.OwnTicks.{own_recordings, own_kept_ticks}
use Rattle.code_event.proofs.laws.events.other_ticks_do_not_matter.Goals as goal

pub returns : goal.returns
returns c = record { recording = own_recordings; kept = own_kept_ticks }
