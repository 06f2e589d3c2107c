use Rattle.isolate_acts.proofs.AfterEnd.{only_commands}
use Rattle.isolate_acts.proofs.Ending.{no_file, nothing_follows}
use Rattle.isolate_acts.proofs.laws.ends_are_last.Goals as goal

pub returns : goal.returns
returns c = record { files = no_file; nothing = nothing_follows; commands = only_commands }
