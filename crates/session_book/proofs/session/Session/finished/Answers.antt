use Rattle.std.proofs.Common.{refl}
use Rattle.session_book.proofs.Ending.{is_profile}
use Rattle.session_book.proofs.session.Session.finished.Goals as goal

pub returns-clause-profile : goal.returns-clause-profile
returns-clause-profile c =
    is_profile c.args.self c.args.end
    (record { session = c.args.self.id; port = c.args.self.options.port; start = c.args.self.start; end = c.args.end; nodes = c.in_ok-nodes.nodes; samples = c.in_ok-nodes.samples; deltas = c.args.self.deltas })
    refl refl refl refl refl c.in_ok-nodes.ensures.nodes c.in_ok-nodes.ensures.samples
