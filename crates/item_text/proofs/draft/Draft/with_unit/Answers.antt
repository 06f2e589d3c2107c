use Rattle.item_text.proofs.Drafts.{unit_draft}
use Rattle.item_text.proofs.draft.Draft.with_unit.Goals as goal

pub invariant_of-result : goal.invariant_of-result
invariant_of-result c =
    (unit_draft c.self.inside.base c.self.inside.items c.self.inside.state c.state.inside.progress c.state.inside.finished c.state.inside.begun c.in-Some.code c.in_ok-code.code c.args.unit c.args.self
    c.state.view_is c.self.view_is c.self.invariant c.requires.fault c.in-Some.is c.in_ok-code.ensures).1

pub returns : goal.returns
returns c =
    (unit_draft c.self.inside.base c.self.inside.items c.self.inside.state c.state.inside.progress c.state.inside.finished c.state.inside.begun c.in-Some.code c.in_ok-code.code c.args.unit c.args.self
    c.state.view_is c.self.view_is c.self.invariant c.requires.fault c.in-Some.is c.in_ok-code.ensures).0
