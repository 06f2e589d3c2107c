use Rattle.attribution.proofs.FinishedFiles.{stops_add_their_files, finishes_are_stops}
use Rattle.attribution.proofs.laws.stops_add_their_files.Goals as goal

pub returns : goal.returns
returns c = record { one = stops_add_their_files; finish = finishes_are_stops }
