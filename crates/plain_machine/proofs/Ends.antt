-- That nothing changes after the end.
use Rattle.std.proofs.Common.{◌≡◌, zero, suc, List, ap, ◌∙◌}
use Rattle.std.proofs.Math.Nat.{add-suc, add-zero}
use Rattle.std.proofs.lemmas.Bool.{cond-true}
use Rattle.std.specs.Prelude.{Bool, true, not, ◌&&◌, is_some, if◌then◌else◌}
use Rattle.guest_program.specs.declared.instr.Func.{Func}
use Rattle.plain_machine.specs.Laws.{EndsAreFinal, NoneIsGivenUpAtTheEnd}
use Rattle.plain_machine.specs.PlainMachine.{State, plain, step, is_js, js_step, js_gives_up, wait_step}

-- a step after the end changes nothing
stays : (funcs : List Func) (state : State) → is_some state.ended ≡ true → step funcs state ≡ state
stays funcs state ended = cond-true (is_some state.ended) state (if is_js state.state then js_step funcs state state.stack else wait_step state) ended

pub ends_are_final : EndsAreFinal
ends_are_final funcs steps zero ended = ap (plain funcs) (add-zero steps)
ends_are_final funcs steps (suc more) ended =
    ap (plain funcs) (add-suc steps more) ∙ (ap (step funcs) (ends_are_final funcs steps more ended) ∙ stays funcs (plain funcs steps) ended)

pub none_is_given_up : NoneIsGivenUpAtTheEnd
none_is_given_up funcs steps ended =
    let before = plain funcs steps in
    ap (λ (b : Bool). not b && is_js before.state && js_gives_up funcs before before.stack && not (is_some (step funcs before).ended)) ended
