use Rattle.std.proofs.Common.{◌∷◌, subst}
use Rattle.code_event.specs.ItemList.{ListSoFar}
use Rattle.item_text.specs.ItemDraft.{Agree}
use Rattle.item_text.proofs.StartedSessions.{agree_started}
use Rattle.item_text.proofs.progress.Progress.started.Goals as goal

pub returns : goal.returns
returns c =
    subst
    (λ (p : ListSoFar). Agree (record { time = c.args.time; started = c.insert.new.self.keys; running = c.insert-2.new.self.items }) (record { time = c.args.time; started = c.args.session.0 ∷ p.started; running = c.args.session.0 ∷ p.running }))
    c.self.view_is
    (agree_started (record { time = c.self.inside.time; started = c.self.inside.started.keys; running = c.self.inside.running.items }) c.args.session.0 c.args.time _ _ c.in_ok-insert.ensures.keys c.in_ok-insert-2.ensures.items)
