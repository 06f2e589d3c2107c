use Rattle.item_text.proofs.Drafts.{create_draft}
use Rattle.item_text.proofs.draft.Draft.with_create.Goals as goal

pub invariant_of-result : goal.invariant_of-result
invariant_of-result c =
    (create_draft c.self.inside.base c.self.inside.items c.in_ok-items.items c.self.inside.state c.state.inside.progress c.state.inside.finished c.state.inside.begun c.args.start c.new.result c.args.self
    c.state.view_is c.self.view_is c.self.invariant c.in_ok-items.ensures c.new.ensures).1

pub returns : goal.returns
returns c =
    (create_draft c.self.inside.base c.self.inside.items c.in_ok-items.items c.self.inside.state c.state.inside.progress c.state.inside.finished c.state.inside.begun c.args.start c.new.result c.args.self
    c.state.view_is c.self.view_is c.self.invariant c.in_ok-items.ensures c.new.ensures).0
