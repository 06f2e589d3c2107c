use Rattle.item_text.proofs.Drafts.{slot_draft}
use Rattle.item_text.proofs.draft.Draft.with_slot.Goals as goal

pub invariant_of-result : goal.invariant_of-result
invariant_of-result c =
    (slot_draft c.self.inside.base c.self.inside.items c.self.inside.state c.state.inside.progress c.state.inside.finished c.state.inside.begun c.in-Some.code c.in_ok-code.code c.args.slot c.args.self
    c.state.view_is c.self.view_is c.self.invariant c.in-Some.is c.in_ok-code.ensures).1

pub returns : goal.returns
returns c =
    (slot_draft c.self.inside.base c.self.inside.items c.self.inside.state c.state.inside.progress c.state.inside.finished c.state.inside.begun c.in-Some.code c.in_ok-code.code c.args.slot c.args.self
    c.state.view_is c.self.view_is c.self.invariant c.in-Some.is c.in_ok-code.ensures).0
