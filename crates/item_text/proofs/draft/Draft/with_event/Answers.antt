use Rattle.item_text.proofs.Drafts.{event_draft}
use Rattle.item_text.proofs.draft.Draft.with_event.Goals as goal

pub invariant_of-result : goal.invariant_of-result
invariant_of-result c =
    (event_draft c.self.inside.base c.self.inside.items c.in_ok-items.items c.in_ok-items-2.items c.self.inside.state c.state.inside.progress c.in_ok-progress.progress c.state.inside.finished c.is_finished-finished.result c.state.inside.begun c.args.event c.event_of.result c.args.self
    c.state.view_is c.self.view_is c.self.invariant c.in_ok-items.ensures c.in_ok-progress.ensures c.is_finished-finished.ensures c.event_of.ensures c.in_ok-items-2.ensures).1

pub returns : goal.returns
returns c =
    (event_draft c.self.inside.base c.self.inside.items c.in_ok-items.items c.in_ok-items-2.items c.self.inside.state c.state.inside.progress c.in_ok-progress.progress c.state.inside.finished c.is_finished-finished.result c.state.inside.begun c.args.event c.event_of.result c.args.self
    c.state.view_is c.self.view_is c.self.invariant c.in_ok-items.ensures c.in_ok-progress.ensures c.is_finished-finished.ensures c.event_of.ensures c.in_ok-items-2.ensures).0
