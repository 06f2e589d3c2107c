-- The isolate is ready for the next turn.
use Rattle.isolate_turns_cases.specs.Ready.{IsReadyToTurn}
use Rattle.isolate_turns_cases.proofs.running.Beside.turns.Given as goal

abbrev pub invariant-loop-turn : goal.invariant-loop-turn
invariant-loop-turn l = IsReadyToTurn l.isolate
