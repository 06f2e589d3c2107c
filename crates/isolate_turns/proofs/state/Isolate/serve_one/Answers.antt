use Rattle.std.proofs.Common.{ℕ, suc, [], ◌∷◌, ap, ◌∙◌}
use Rattle.std.specs.Prelude.{None, Some}
use Rattle.isolate_acts.specs.Calls.{commanded, with_calls}
use Rattle.isolate_turns.proofs.CommandRuns.{obeyed_runs, passed_runs}
use Rattle.isolate_turns.proofs.state.Isolate.serve_one.Goals as goal

pub returns-in-Some-clause-runs : goal.returns-in-Some-clause-runs
returns-in-Some-clause-runs g c moment now commands more =
    let calls = g.P.IsoPorts.calls c.args.ports.now in
    obeyed_runs _ _ _ c.args.port commands c.obey-is_taken.result _ more
    (c.obey-is_taken.ensures.obeys moment now calls (c.in-Some.ensures.calls ∙ ap (λ (n : ℕ). with_calls calls (commanded c.args.port n (Some c.in-Some.given) ∷ [])) c.step.ensures.value))
    (c.end_if_must.ensures.runs moment c.args.port (suc commands))

pub returns-in-None-clause-runs : goal.returns-in-None-clause-runs
returns-in-None-clause-runs g c moment now commands more =
    let calls = g.P.IsoPorts.calls c.args.ports.now in
    passed_runs moment c.args.self.now.progress calls (g.P.IsoPorts.calls c.command.new.self) _ c.args.port commands
    (c.in-None.ensures.calls ∙ ap (λ (n : ℕ). with_calls calls (commanded c.args.port n None ∷ [])) c.step.ensures.value)
