use Rattle.code_event.proofs.Recordings.{to_parts, from_parts}
use Rattle.code_event.proofs.laws.recordings.recordings_stand_between_their_marks.Goals as goal

pub returns : goal.returns
returns c seen number told = (to_parts seen number told, from_parts seen number told)
