use Rattle.std.proofs.Common.{◌∙◌, ℕ, List, length, get_or, Option, Some, sym, ap}
use Rattle.guest_program.specs.declared.instr.Func.{Func}
use Rattle.guest_text.specs.declared.program_line.ProgramLine.{ProgramLine}
use Rattle.guest_text.specs.Outline.{size_after}
use Rattle.guest_text.specs.ProgramRules.{heads}
use Rattle.guest_text.specs.Draft.{draft_lines}
use Rattle.guest_text.proofs.DraftLines.{last_body_size}
use Rattle.guest_text.proofs.draft.Draft.size.Goals as goal

pub returns-in-Some : goal.returns-in-Some
returns-in-Some c =
    ap (λ (n : ℕ). Some n) (c.size.ensures ∙ ap (λ (n : ℕ). get_or c.args.outline.now.sizes n 0) (c.len.ensures ∙ c.self.inside.done.ok.0))
    ∙ sym (last_body_size c.args.outline.now.sizes c.self.inside.done.items c.in-Some.field-0)
    ∙ ap (λ (last : Option Func). size_after c.args.outline.now.sizes (length (heads (draft_lines c.self.inside.done.items last)))) (sym c.in-Some.is)
    ∙ ap (λ (lines : List ProgramLine). size_after c.args.outline.now.sizes (length (heads lines))) c.self.view_is
