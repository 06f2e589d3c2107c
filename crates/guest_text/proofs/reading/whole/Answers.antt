use Rattle.std.proofs.Common.{ℕ, List, Vec, Global, sym, subst}
use Rattle.guest_text.specs.ProgramText.{program_lines}
use Rattle.guest_program.specs.declared.instr.Func.{Func}
use Rattle.guest_program.specs.Program.{IsMain}
use Rattle.guest_text.proofs.Mains.{ends_well, ends_badly}
use Rattle.guest_text.proofs.reading.whole.Goals as goal

pub returns-in-Some-clause-lines : goal.returns-in-Some-clause-lines
returns-in-Some-clause-lines c =
    ends_well c.in-Ok.funcs.items c.args.draft c.in-Some.main c.args.after c.in-Ok.ensures.lines
    (subst (λ (funcs : List Func). IsMain funcs c.in-Some.main) c.as_slice.ensures.value c.in-Some.ensures.some)

pub returns-in-None-clause-lines : goal.returns-in-None-clause-lines
returns-in-None-clause-lines c =
    ends_badly {X = Vec Func Global × ℕ} c.in-Ok.funcs.items c.args.draft c.args.after (λ x. program_lines x.0.items) c.at.result c.in-Ok.ensures.lines
    (λ number main. c.in-None.ensures.none number (subst (λ (funcs : List Func). IsMain funcs number) (sym c.as_slice.ensures.value) main)) c.at.ensures
