use Rattle.std.proofs.Common.{sym, ◌∙◌}
use Rattle.isolate_turns.proofs.Going.{goes_ended}
use Rattle.isolate_turns.proofs.state.Isolate.go_on.Goals as goal

pub returns-in-Some-clause-goes : goal.returns-in-Some-clause-goes
returns-in-Some-clause-goes g c = λ moment is. (moment, is, goes_ended _ c.in-Some.why (sym c.ending.ensures.value ∙ c.in-Some.is))
