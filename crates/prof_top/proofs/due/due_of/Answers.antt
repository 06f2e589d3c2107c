use Rattle.std.proofs.Common.{sym, ◌∙◌}
use Rattle.prof_top.proofs.Endings.{due_of_last}
use Rattle.prof_top.proofs.due.due_of.Goals as goal

pub returns-in-Some : goal.returns-in-Some
returns-in-Some c = c.due_at.ensures ∙ sym (due_of_last c.args.entries.now c.in-Some.last.now (sym c.in-Some.ensures.value))
