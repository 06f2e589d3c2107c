use Rattle.item_text.proofs.Drafts.{tick_draft}
use Rattle.item_text.proofs.draft.Draft.with_tick.Goals as goal

pub invariant_of-result : goal.invariant_of-result
invariant_of-result c =
    (tick_draft c.self.inside.base c.self.inside.items c.in_ok-items.items c.in_ok-items-2.items c.self.inside.state c.state.inside.progress c.at-progress.result c.state.inside.finished c.state.inside.begun c.args.tick c.args.self
    c.state.view_is c.self.view_is c.self.invariant c.in_ok-items.ensures c.at-progress.ensures c.in_ok-items-2.ensures).1

pub returns : goal.returns
returns c =
    (tick_draft c.self.inside.base c.self.inside.items c.in_ok-items.items c.in_ok-items-2.items c.self.inside.state c.state.inside.progress c.at-progress.result c.state.inside.finished c.state.inside.begun c.args.tick c.args.self
    c.state.view_is c.self.view_is c.self.invariant c.in_ok-items.ensures c.at-progress.ensures c.in_ok-items-2.ensures).0
