use Rattle.std.proofs.Common.{◌∙◌, ◌==◌, Bool, not, sym, ap}
use Rattle.std.specs.List.{list_any}
use Rattle.record_text.specs.ScriptDraft.{SessionNumbers}
use Rattle.record_text.specs.ScriptRules.{running_after_lines}
use Rattle.record_text.proofs.ScriptSessions.{is_running-numbers}
use Rattle.record_text.proofs.script_draft.ScriptDraft.breaks_session.Goals as goal

pub returns-in-Stop : goal.returns-in-Stop
returns-in-Stop c =
    rw (c.in-Stop.is, ← c.self.view_is)
    (ap (λ (b : Bool). not b)
    (c.is_running.ensures
    ∙ ap (λ (z : SessionNumbers). list_any (λ number. number == c.in-Stop.session.0) z.running) c.self.invariant.numbers
    ∙ sym (is_running-numbers (running_after_lines c.self.inside.lines) c.in-Stop.session.0)))
