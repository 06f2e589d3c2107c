use Rattle.isolate_turns.proofs.Keeping.{histories_kept, openings_kept}
use Rattle.isolate_turns.proofs.laws.histories_are_kept.Goals as goal

pub returns-clause-opening : goal.returns-clause-opening
returns-clause-opening c = openings_kept

pub returns-clause-history : goal.returns-clause-history
returns-clause-history c = histories_kept
