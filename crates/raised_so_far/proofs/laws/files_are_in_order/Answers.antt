use Rattle.raised_so_far.proofs.FilesRaised.{files_so_far, short_turns, whole_runs}
use Rattle.raised_so_far.proofs.laws.files_are_in_order.Goals as goal

pub returns : goal.returns
returns c = record { so_far = files_so_far; whole = whole_runs; short = short_turns }
