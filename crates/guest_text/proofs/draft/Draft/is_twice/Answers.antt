use Rattle.std.proofs.Common.{◌∙◌, Bool, ◌||◌, sym, ap}
use Rattle.guest_text.specs.Draft.{is_among}
use Rattle.guest_text.proofs.DraftLines.{told}
use Rattle.guest_text.proofs.draft.Draft.is_twice.Goals as goal

pub returns-then-contains : goal.returns-then-contains
returns-then-contains c =
    c.if-contains.true ∙ sym (ap (λ (b : Bool). b || is_among c.self.inside.entries c.args.entry.now) (sym c.contains.ensures ∙ c.if-contains.true))
    ∙ told c.self.inside.labels c.self.inside.entries c.args.head.now c.self.inside.done.items c.self.inside.last c.args.self.now c.args.label.now c.args.entry.now c.self.invariant c.self.view_is c.requires.head c.requires.label c.requires.entry

pub returns-else-contains : goal.returns-else-contains
returns-else-contains c =
    c.contains-else-contains.ensures ∙ sym (ap (λ (b : Bool). b || is_among c.self.inside.entries c.args.entry.now) (sym c.contains.ensures ∙ c.if-contains.false))
    ∙ told c.self.inside.labels c.self.inside.entries c.args.head.now c.self.inside.done.items c.self.inside.last c.args.self.now c.args.label.now c.args.entry.now c.self.invariant c.self.view_is c.requires.head c.requires.label c.requires.entry
