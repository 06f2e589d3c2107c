use Rattle.std.proofs.Common.{◌∙◌, ℕ, suc, List, length, Option, sym, ap, add-one}
use Rattle.guest_program.specs.declared.instr.Func.{Func}
use Rattle.guest_text.specs.declared.program_line.ProgramLine.{ProgramLine}
use Rattle.guest_text.specs.ProgramRules.{heads}
use Rattle.guest_text.specs.Draft.{draft_lines}
use Rattle.guest_text.proofs.DraftLines.{number_of_heads}
use Rattle.guest_text.proofs.draft.Draft.number.Goals as goal

pub returns-in-Some : goal.returns-in-Some
returns-in-Some c =
    add-one c.len-in-Some.result ∙ ap (λ (n : ℕ). suc n) (c.len-in-Some.ensures ∙ c.self.inside.done.ok.0) ∙ sym (number_of_heads c.self.inside.done.items c.in-Some.field-0)
    ∙ ap (λ (last : Option Func). length (heads (draft_lines c.self.inside.done.items last))) (sym c.in-Some.is)
    ∙ ap (λ (lines : List ProgramLine). length (heads lines)) c.self.view_is
