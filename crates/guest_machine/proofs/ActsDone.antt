-- That an act of the machine is the next operation of the plain machine, and what is said of it.
use Rattle.std.proofs.Common.{◌≡◌, ℕ, ◌%◌, ◌^◌, ◌<◌, List, [], ◌∷◌, ◌++◌, suc, length, refl, ap, ◌∙◌, sym, subst, arith, append-nil}
use Rattle.std.specs.Prelude.{false, None, not, ◌&&◌, is_some, nat_lt, slice_set}
use Rattle.guest_program.specs.Program.{IsOp}
use Rattle.code_event.specs.DeoptReasons.{DeoptReasons}
use Rattle.code_event.specs.declared.event.CodeEvent.{CodeEvent}
use Rattle.plain_machine.specs.PlainFrames.{reason_in}
use Rattle.std.proofs.lemmas.Bool.{cond_both}
use Rattle.prof_base.specs.declared.ids.FuncId.{FuncId}
use Rattle.guest_program.specs.InlinedSize.{body_of}
use Rattle.guest_program.specs.declared.instr.Func.{Func}
use Rattle.guest_program.specs.declared.instr.Op.{Op}
use Rattle.guest_program.specs.declared.instr.Op.TheVariants as op
use Rattle.code_event.specs.declared.layout.Slot.{Slot}
use Rattle.guest_machine.proofs.Instructions.{next_fits}
use Rattle.guest_machine.proofs.Moved.{GoesOn, stays_keep}
use Rattle.guest_machine.proofs.KeptCode.{quiet_acts}
use Rattle.guest_stack.proofs.Positions.{slot_there}
use Rattle.guest_machine.proofs.Quiet.{IsSilent, LeavesCodePlain, does_code, does_quiet, gives_none_up}
use Rattle.guest_machine.specs.Machine.{ActKeepsRules, Acts, Advances, DoesOp, IsInState, IsMachine, OpActs, body_at, next_op, StaysInUnit, op_deopts, printed_text, program_of}
use Rattle.plain_machine.specs.PlainMachine.{Code, Frame, State, code_at, deoptimised, does, ends, gives_up, returns, says}
use Rattle.plain_machine.specs.declared.ended.Ended.TheVariants as end
use Rattle.guest_stack.specs.Laws.{IsAtSlot}
use Rattle.guest_machine.specs.declared.machine.Machine.{Machine}
use Rattle.guest_machine.specs.declared.machine.StepDone.{StepDone}

-- what is said of code prints nothing
pub says_silent : (funcs : List Func) (state : State) (frame : Frame) (callers : List Frame) (func : ℕ) (code : Code) → (says funcs state frame callers func code).printed ≡ state.printed
says_silent funcs state frame callers func code =
    cond_both (nat_lt (suc frame.index) (length (body_of funcs frame.func))) (record state { code = slice_set state.code func code; stack = record frame { index = suc frame.index } ∷ callers })
    (ends end.OffEnd state) (λ (after : State). after.printed ≡ state.printed) (λ below. refl) (λ past. refl)

-- What was done without printing.
pub record IsUnprinted (new : Machine) (done : StepDone) : Type 0 where
  pub tick : done.vm_tick ≡ false
  pub printed : done.printed ≡ None
  pub engine : done.state ≡ new.state

-- an act that gives no reason, where what is said of code stays as it was
pub acts_plainly : (old new : Machine) (events : List CodeEvent) (op : Op) → LeavesCodePlain op → ActKeepsRules old new events op
    → Acts old new events (λ state frame callers. does (program_of old) state frame callers op) → OpActs old new events op
acts_plainly old new events op plain rules acts =
    record {
      whole = acts.whole;
      program = acts.program;
      advances = acts.does;
      code = acts.code;
      reasons = λ state frame callers at why is stack_is lie are entry.
          ap (λ (w : DeoptReasons). w entry) (acts.no_reason at why) ∙ are entry
          ∙ ap (λ codes. reason_in (program_of old) codes entry) (sym (does_code (program_of old) state frame callers op plain));
      rules = rules;
    }

-- an act with its events, that prints nothing
pub silent_done : (old new : Machine) (done : StepDone) (op : Op) → next_op old ≡ op → LeavesCodePlain op → IsSilent op → IsUnprinted new done → ActKeepsRules old new done.events op
    → Acts old new done.events (λ state frame callers. does (program_of old) state frame callers op) → DoesOp old new done (next_op old)
silent_done old new done op next plain silent unprinted rules acts =
    subst (DoesOp old new done) (sym next) (record {
      acts = acts_plainly old new done.events op plain rules acts;
      tick = λ state frame callers is stack_is.
          unprinted.tick ∙ sym (ap (λ b. b && not (is_some (does (program_of old) state frame callers op).ended)) (gives_none_up state op plain));
      printed = λ state frame callers is stack_is.
          (does_quiet (program_of old) state frame callers op plain silent).printed
          ∙ sym (append-nil state.printed)
          ∙ ap (λ o. state.printed ++ printed_text o) (sym unprinted.printed);
      engine = unprinted.engine;
    })

-- an act that leaves the code as it is, and prints nothing
leaves_code : (old new : Machine) (done : StepDone) (op : Op) → next_op old ≡ op → LeavesCodePlain op → IsSilent op → IsUnprinted new done → ActKeepsRules old new done.events op → done.events ≡ [] → IsMachine new → new.code ≡ old.code
    → Advances old new (λ state frame callers. does (program_of old) state frame callers op) → DoesOp old new done (next_op old)
leaves_code old new done op next plain silent unprinted rules none whole same advances =
    silent_done old new done op next plain silent unprinted rules
    (subst (λ events. Acts old new events (λ state frame callers. does (program_of old) state frame callers op)) (sym none)
    (quiet_acts old new (λ state frame callers. does (program_of old) state frame callers op) whole same advances))

-- an act that stays in its unit, and prints nothing
pub quiet_done : (old new : Machine) (done : StepDone) (op : Op) → next_op old ≡ op → LeavesCodePlain op → IsSilent op → GoesOn op → IsMachine old → old.ended ≡ None → StaysInUnit old new → IsUnprinted new done → done.events ≡ []
    → IsMachine new → new.code ≡ old.code → Advances old new (λ state frame callers. does (program_of old) state frame callers op) → DoesOp old new done (next_op old)
quiet_done old new done op next plain silent goes before going stays unprinted none whole same advances =
    leaves_code old new done op next plain silent unprinted (stays_keep old new done.events op before going stays same none goes advances) none whole same advances

-- a return
pub return_done : (old new : Machine) (done : StepDone) → next_op old ≡ op.Ret → IsUnprinted new done → ActKeepsRules old new [] op.Ret → done.events ≡ [] → IsMachine new → new.code ≡ old.code
    → Advances old new (λ state frame callers. returns (program_of old) state frame callers) → DoesOp old new done (next_op old)
return_done old new done next unprinted rules none whole same advances =
    leaves_code old new done op.Ret next tt tt unprinted (subst (λ events. ActKeepsRules old new events op.Ret) (sym none) rules) none whole same advances

-- a print
pub print_done : (old new : Machine) (done : StepDone) (from : ℕ) → next_op old ≡ op.Print from → IsMachine old → old.ended ≡ None → StaysInUnit old new → done.vm_tick ≡ false → done.state ≡ new.state → done.events ≡ []
    → IsMachine new → new.code ≡ old.code → Advances old new (λ state frame callers. does (program_of old) state frame callers (op.Print from))
    → ((state : State) (frame : Frame) (callers : List Frame) → IsInState old state → state.stack ≡ frame ∷ callers
    → (does (program_of old) state frame callers (op.Print from)).printed ≡ state.printed ++ printed_text done.printed)
    → DoesOp old new done (next_op old)
print_done old new done from next before going stays tick engine none whole same advances printed =
    subst (DoesOp old new done) (sym next) (record {
      acts = acts_plainly old new done.events (op.Print from) tt (stays_keep old new done.events (op.Print from) before going stays same none tt advances)
          (subst (λ events. Acts old new events (λ state frame callers. does (program_of old) state frame callers (op.Print from))) (sym none)
          (quiet_acts old new (λ state frame callers. does (program_of old) state frame callers (op.Print from)) whole same advances));
      tick = λ state frame callers is stack_is. tick;
      printed = printed;
      engine = engine;
    })

-- an operation that optimises a function, or bars one from it
pub optimising_done : (old new : Machine) (done : StepDone) (op : Op) → next_op old ≡ op → ((state : State) → gives_up state op ≡ false) → IsUnprinted new done → OpActs old new done.events op
    → ((state : State) (frame : Frame) (callers : List Frame) → (does (program_of old) state frame callers op).printed ≡ state.printed) → DoesOp old new done (next_op old)
optimising_done old new done op next never unprinted acts silent =
    subst (DoesOp old new done) (sym next) (record {
      acts = acts;
      tick = λ state frame callers is stack_is. unprinted.tick ∙ sym (ap (λ b. b && not (is_some (does (program_of old) state frame callers op).ended)) (never state));
      printed = λ state frame callers is stack_is. silent state frame callers ∙ sym (append-nil state.printed) ∙ ap (λ o. state.printed ++ printed_text o) (sym unprinted.printed);
      engine = unprinted.engine;
    })

-- an operation that gives optimised code up
pub deoptimising_done : (old new : Machine) (done : StepDone) (func : FuncId) (reason : List ℕ) → next_op old ≡ op.Deopt func reason → OpActs old new done.events (op.Deopt func reason)
    → ((state : State) (frame : Frame) (callers : List Frame) → IsInState old state → state.stack ≡ frame ∷ callers → done.vm_tick ≡ op_deopts (program_of old) state frame callers (op.Deopt func reason))
    → done.printed ≡ None → done.state ≡ new.state → DoesOp old new done (next_op old)
deoptimising_done old new done func reason next acts tick none engine =
    subst (DoesOp old new done) (sym next) (record {
      acts = acts;
      tick = tick;
      printed = λ state frame callers is stack_is.
          says_silent (program_of old) state frame callers func.0 (deoptimised reason (code_at state func.0))
          ∙ sym (append-nil state.printed) ∙ ap (λ o. state.printed ++ printed_text o) (sym none);
      engine = engine;
    })

-- The machine, before an act.
module _ (old : Machine) (whole : IsMachine old) where
  pub there : (slot : Slot) × IsAtSlot (program_of old) old.stack.frame slot
  there = slot_there (program_of old) old.stack.frame whole.placed.0.code

  pub fits : (op : Op) → next_op old ≡ op → (slot : Slot) → IsAtSlot (program_of old) old.stack.frame slot → IsOp (length (program_of old)) (length (body_at old slot)) op
  fits op next slot at = subst (IsOp (length (program_of old)) (length (body_at old slot))) next (next_fits old whole slot at)

  pub fits_somewhere : (op : Op) → next_op old ≡ op → IsOp (length (program_of old)) (length (body_at old there.0)) op
  fits_somewhere op next = fits op next there.0 there.1

-- a number of 64 bits is itself
pub small_number : (n : ℕ) → n < 2 ^ 64 → n ≡ n % 2 ^ 64
small_number n small = omega (arith, small)
