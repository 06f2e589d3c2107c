use Rattle.std.proofs.Common.{◌<◌, ◌∙◌, ap, sym, subst, refl, length}
use Rattle.std.specs.Prelude.{◌∷◌, Some, false, option_to_list, replicate}
use Rattle.guest_program.specs.Program.{IsMain, IsProgram}
use Rattle.guest_stack.specs.Stack.{Physical, begun}
use Rattle.code_objects.specs.Changes.{MakesSure, RangesFollow}
use Rattle.code_objects.specs.CodeObjects.{plain_name}
use Rattle.guest_machine.proofs.Beginning.{begun_whole, begun_reflects, main_is, none_nowhere}
use Rattle.guest_machine.proofs.machine.Machine.new.Goals as goal

pub unreachable-requires : goal.unreachable-requires
unreachable-requires c =
    none_nowhere c.in_ok-code.code (plain_name c.main-main.result) c.in_ok-code.ensures.nowhere
    (subst (MakesSure c.in_ok-code.code c.ensure_plain.new.self (plain_name c.main-main.result)) c.in-None.is c.in_ok-event.ensures.event).0

pub returns-clause-whole : goal.returns-clause-whole
returns-clause-whole c =
    let funcs = sym (c.ensure_plain.ensures.funcs ∙ c.in_ok-code.ensures.funcs) in
    begun_whole _ c.main-main.result (subst IsProgram funcs c.funcs.ensures.rules) (subst (λ f. IsMain f c.main-main.result.0) funcs c.main-main.ensures.main)
    (subst (λ f. c.main-main.result.0 < length f) funcs c.main-main.ensures.within) c.in_ok-event.ensures.there (c.new-in-Some.ensures ∙ ap begun c.plain_name-name.ensures) (c.in_ok-disabled.ensures ∙ ap (λ fs. replicate (length fs) false) (c.funcs.ensures.functions ∙ funcs))

pub returns-clause-reflects : goal.returns-clause-reflects
returns-clause-reflects c =
    let funcs = sym (c.ensure_plain.ensures.funcs ∙ c.in_ok-code.ensures.funcs) in
    begun_reflects _ c.main-main.result (subst IsProgram funcs c.funcs.ensures.rules) (subst (λ f. IsMain f c.main-main.result.0) funcs c.main-main.ensures.main)
    (subst (λ f. c.main-main.result.0 < length f) funcs c.main-main.ensures.within) c.in_ok-event.ensures.there (c.new-in-Some.ensures ∙ ap begun c.plain_name-name.ensures) (c.in_ok-disabled.ensures ∙ ap (λ fs. replicate (length fs) false) (c.funcs.ensures.functions ∙ funcs))
    c.in_ok-code.code c.in-Some.event refl refl refl refl c.in_ok-code.ensures.nowhere c.ensure_plain.ensures.others
    (subst (MakesSure c.in_ok-code.code c.ensure_plain.new.self (plain_name c.main-main.result)) c.in-Some.is c.in_ok-event.ensures.event)
    (subst (λ o. RangesFollow c.in_ok-code.code c.ensure_plain.new.self (option_to_list o)) c.in-Some.is c.in_ok-event.ensures.ranges)

pub returns-clause-opens : goal.returns-clause-opens
returns-clause-opens c =
    let funcs = sym (c.ensure_plain.ensures.funcs ∙ c.in_ok-code.ensures.funcs) in
    let program = subst IsProgram funcs c.funcs.ensures.rules in
    record {
      before = c.in_ok-code.code;
      funcs = sym c.ensure_plain.ensures.funcs;
      none = c.in_ok-code.ensures.space;
      main = c.main-main.result;
      main_is = sym (main_is c.ensure_plain.new.self.funcs c.main-main.result.0 program (subst (λ f. IsMain f c.main-main.result.0) funcs c.main-main.ensures.main));
      code = record {
        event = Some c.in-Some.event;
        sure = subst (MakesSure c.in_ok-code.code c.ensure_plain.new.self (plain_name c.main-main.result)) c.in-Some.is c.in_ok-event.ensures.event;
        others = c.ensure_plain.ensures.others;
        funcs = c.ensure_plain.ensures.funcs;
        raised = refl;
      };
      frames = ap (λ (it : Physical). it.frame ∷ it.callers) (c.new-in-Some.ensures ∙ ap begun c.plain_name-name.ensures);
    }
