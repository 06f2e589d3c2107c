use Rattle.isolate_turns.proofs.Keeping.{rules_kept}
use Rattle.isolate_turns.proofs.laws.rules_are_kept.Goals as goal

pub returns : goal.returns
returns c = record { rules = rules_kept }
