use Rattle.isolate_turns.proofs.Commanded.{refused_obeys}
use Rattle.isolate_turns.proofs.state.Isolate.obey.Goals as goal

pub returns-in-Some-clause-obeys : goal.returns-in-Some-clause-obeys
returns-in-Some-clause-obeys g c moment now calls given =
    refused_obeys moment c.args.self.now.progress calls (g.P.IsoPorts.calls c.args.ports.now) (g.P.IsoPorts.calls c.answer.new.ports) _ c.args.port c.args.given c.in-Some.answer c.answer.result
    c.requires.exists c.in-Some.ensures.refused given c.answer.ensures.calls
