use Rattle.raised_so_far.proofs.Files.{files}
use Rattle.raised_so_far.proofs.laws.stopped_sessions_have_their_files.Goals as goal

pub returns : goal.returns
returns c = record { files = files }
