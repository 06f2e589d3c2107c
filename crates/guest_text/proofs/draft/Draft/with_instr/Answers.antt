use Rattle.std.proofs.Common.{◌≡◌, ◌∙◌, List, [], ◌∷◌, ◌++◌, Option, Some, Ok, Err, sym, ap, subst, refl, arith}
use Rattle.prof_lines.specs.declared.fault.Cause.TheVariants.{Own}
use Rattle.prof_lines.specs.Values.{kept}
use Rattle.guest_program.specs.declared.instr.Func.{Func}
use Rattle.guest_text.specs.declared.rule.Rule.TheVariants.{Limit}
use Rattle.guest_text.specs.declared.program_line.ProgramLine.{ProgramLine}
use Rattle.guest_text.specs.declared.program_line.ProgramLine.TheVariants as line
use Rattle.guest_text.specs.ProgramRules.{program_fault}
use Rattle.guest_text.specs.Draft.{draft_lines, IsDraft}
use Rattle.guest_text.proofs.DraftLines.{instr_over, instr_allowed, with_instr_lines, with_instr_draft}
use Rattle.guest_text.proofs.draft.Draft.with_instr.Goals as goal

pub returns-then-len : goal.returns-then-len
returns-then-len c = λ sizes.
    let view : draft_lines c.self.inside.done.items (Some c.in-Some.func) ≡ c.args.self =
    ap (draft_lines c.self.inside.done.items) (sym c.in-Some.is) ∙ c.self.view_is in
    subst (λ (lines : List ProgramLine). kept (program_fault sizes lines (line.Instr c.args.instr)) (lines ++ line.Instr c.args.instr ∷ []) ≡ Err (Own Limit)) view
    (rw (instr_over sizes c.self.inside.done.items c.in-Some.func c.args.instr (omega (arith, c.if-len.true, c.len.ensures))) refl)

pub invariant_of-result : goal.invariant_of-result
invariant_of-result c =
    with_instr_draft c.self.inside.labels c.self.inside.entries c.self.inside.done.items c.in-Some.func c.in_ok-func.func c.args.instr c.in_ok-func.ensures
    (subst (λ (last : Option Func). IsDraft c.self.inside.labels c.self.inside.entries c.self.inside.done.items last) c.in-Some.is c.self.invariant)

pub returns : goal.returns
returns c = λ sizes.
    let view : draft_lines c.self.inside.done.items (Some c.in-Some.func) ≡ c.args.self =
    ap (draft_lines c.self.inside.done.items) (sym c.in-Some.is) ∙ c.self.view_is in
    let more = with_instr_lines c.self.inside.done.items c.in-Some.func c.in_ok-func.func c.args.instr c.in_ok-func.ensures in
    subst
    (λ (lines : List ProgramLine). kept (program_fault sizes lines (line.Instr c.args.instr)) (lines ++ line.Instr c.args.instr ∷ []) ≡ Ok (draft_lines c.self.inside.done.items (Some c.in_ok-func.func)))
    view
    (rw (instr_allowed sizes c.self.inside.done.items c.in-Some.func c.args.instr (omega (arith, c.if-len.false, c.len.ensures)), more) refl)
