use Rattle.std.proofs.Common.{◌∙◌, ℕ, ◌<◌, List, [], ◌∷◌, ◌++◌, length, ◌||◌, bytes_eq, sym, ap, subst}
use Rattle.guest_program.specs.declared.program.TheConstants.Program.{MAX_FUNCS}
use Rattle.guest_text.specs.declared.program_line.ProgramLine.{ProgramLine}
use Rattle.guest_text.specs.declared.program_line.ProgramLine.TheVariants as line
use Rattle.guest_text.specs.ProgramRules.{heads}
use Rattle.guest_text.specs.Draft.{is_among}
use Rattle.guest_text.proofs.DraftLines.{with_head_lines, with_head_draft}
use Rattle.guest_text.proofs.draft.Draft.with_head.Goals as goal

pub invariant_of-result : goal.invariant_of-result
invariant_of-result c =
    with_head_draft c.self.inside.labels c.self.inside.entries c.in_ok-labels.labels c.in_ok-entries.entries c.self.inside.done.items c.self.inside.last c.in_ok-done.done.items c.begun.result c.args.head
    c.in_ok-done.ensures c.begun.ensures c.requires.head
    (subst (λ (lines : List ProgramLine). length (heads lines) < MAX_FUNCS) (sym c.self.view_is) c.requires.few)
    (λ q. c.in_ok-labels.ensures q ∙ ap (λ (word : List ℕ). bytes_eq word q || is_among c.self.inside.labels q) c.requires.label)
    (λ q. c.in_ok-entries.ensures q ∙ ap (λ (word : List ℕ). bytes_eq word q || is_among c.self.inside.entries q) c.requires.entry)
    c.self.invariant

pub returns : goal.returns
returns c =
    with_head_lines c.self.inside.done.items c.self.inside.last c.in_ok-done.done.items c.begun.result c.args.head c.in_ok-done.ensures c.begun.ensures
    ∙ ap (λ (lines : List ProgramLine). lines ++ line.Func c.args.head ∷ []) c.self.view_is
