use Rattle.std.proofs.Common.{◌∙◌}
use Rattle.code_event.specs.ItemFile.{ends}
use Rattle.code_event.proofs.EndsHaveFiles.{of_its_session, stopped_sessions_have_files}
use Rattle.isolate.specs.PlainFile.{seen_run}
use Rattle.isolate.proofs.FileOrder.{ends-run, stopped_while_running}
use Rattle.isolate.proofs.laws.each_session_that_ends_has_its_file.Goals as goal

pub returns-clause-sessions : goal.returns-clause-sessions
returns-clause-sessions c funcs schedule legal =
    stopped_sessions_have_files schedule.base (seen_run funcs schedule) (stopped_while_running funcs schedule legal) ∙ ends-run funcs schedule legal

pub returns-clause-texts : goal.returns-clause-texts
returns-clause-texts c funcs schedule = of_its_session schedule.base (seen_run funcs schedule) (ends (seen_run funcs schedule))
