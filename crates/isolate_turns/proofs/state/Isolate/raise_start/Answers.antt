use Rattle.std.proofs.Common.{◌∙◌, sym}
use Rattle.isolate_ends.proofs.Answered.{of_ok}
use Rattle.isolate_turns.proofs.Commanded.{start_raised}
use Rattle.isolate_turns.proofs.state.Isolate.raise_start.Goals as goal

pub returns-clause-ok : goal.returns-clause-ok
returns-clause-ok g c moment at =
    start_raised _ _ _ c.start_mark-mark.result _ c.start_tick-tick.result _ c.start_mark-mark.ensures.mark (c.start_tick-tick.ensures.tick moment at)
    (of_ok c.put_event.result (sym c.is_err.ensures.value ∙ c.if-is_err.false) c.put_event.ensures.ok)
    (of_ok c.put_tick.result (sym c.is_err-2.ensures.value ∙ c.if-is_err-2.false) c.put_tick.ensures.ok)
