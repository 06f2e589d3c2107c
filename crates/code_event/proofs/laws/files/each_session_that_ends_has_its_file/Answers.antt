use Rattle.code_event.proofs.EndsHaveFiles.{files_are_their_sessions, stopped_sessions_have_files}
use Rattle.code_event.proofs.LegalStops.{legal_ends_have_files}
use Rattle.code_event.proofs.laws.files.each_session_that_ends_has_its_file.Goals as goal

pub returns : goal.returns
returns c = record { sessions = legal_ends_have_files; seen = stopped_sessions_have_files; texts = files_are_their_sessions }
