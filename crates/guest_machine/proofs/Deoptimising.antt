-- That what gives optimised code up is the plain machine's operation.
use Rattle.std.proofs.Common.{◌≡◌, ℕ, ◌<◌, List, [], ◌∷◌, length, refl, ap, ap₂, ◌∙◌, sym, subst}
use Rattle.std.proofs.lemmas.Bool.{cond-true, cond-false}
use Rattle.std.specs.Prelude.{Bool, true, false, not, ◌&&◌, Option, Some, None, is_some}
use Rattle.std.specs.List.{AllByRecursion}
use Rattle.prof_base.specs.declared.ids.FuncId.{FuncId}
use Rattle.guest_program.specs.Program.{IsProgram}
use Rattle.guest_program.specs.declared.instr.Func.{Func}
use Rattle.guest_program.specs.declared.instr.Op.TheVariants as op
use Rattle.code_event.proofs.EachElement.{all_mapped}
use Rattle.code_event.specs.DeoptReasons.{reasons_after}
use Rattle.code_event.specs.declared.event.CodeEvent.{CodeEvent}
use Rattle.code_objects.specs.Changes.{HasCode, RangesFollow}
use Rattle.code_objects.specs.CodeObjects.{CodeParts, LieAt, optimised_name, start_at}
use Rattle.code_objects.specs.declared.name.CodeName.{CodeName}
use Rattle.guest_machine.proofs.Barring.{KeepsCode, WentOn, all_changed, all_follow, all_given, code_same, kept_advances}
use Rattle.guest_machine.proofs.Moved.{act_goes, risen_to, then_keeps, unmoved_keeps}
use Rattle.guest_machine.proofs.Saying.{SaysSo, gives_none, gives_none_off, gives_reason, says_off, says_on, with_code}
use Rattle.guest_machine.specs.Machine.{HasMoved, HasRunOff, IsInState, IsMachine, OpActs, flag_at, op_deopts, program_of}
use Rattle.guest_machine.specs.Raises.{GivenUp, Raises, reason_of}
use Rattle.guest_machine.specs.Rules.{AreSure, Deopts, GivesUp, frames_of, gone_to, has_code, top_index}
use Rattle.guest_stack.proofs.GivingUp.{given_up_are_in_code, given_up_stand}
use Rattle.guest_stack.proofs.StackActs.{rises_below, rises_past}
use Rattle.guest_stack.specs.Laws.{IsInCode, IsPlaced}
use Rattle.guest_stack.specs.Stack.{EachHasRegisters, Physical, Stands, all_given_up, framed, positions, stack_positions}
use Rattle.guest_stack.specs.declared.stack.CodeFrame.{CodeFrame}
use Rattle.plain_machine.specs.PlainMachine.{Code, Frame, State, code_at, deoptimised, does}
use Rattle.guest_machine.specs.declared.machine.Machine.{Machine}

-- The code of a function after `deopt`, in each case.
module _ (reason : List ℕ) (code : Code) where
  abbrev given_up_code : Code
  given_up_code = record { optimised = false; disabled = code.disabled; reason = Some reason }

  code_stays : code.optimised ≡ false → deoptimised reason code ≡ code
  code_stays plain = cond-false code.optimised given_up_code code plain

  code_goes : code.optimised ≡ true → deoptimised reason code ≡ given_up_code
  code_goes there = cond-true code.optimised given_up_code code there

-- What is made sure of, or given up, leaves the program as it is.
sure_funcs : (names : List CodeName) (old new : CodeParts) (events : List CodeEvent) → AreSure names old new events → new.funcs ≡ old.funcs
sure_funcs [] old new events sure = ap (λ c. c.funcs) sure.0
sure_funcs (name ∷ names) old new events sure = sure_funcs names sure.between new sure.raised_then sure.after ∙ sure.first.funcs

given_up_funcs : (func : FuncId) (reason : List ℕ) (frames : List CodeFrame) (old new : CodeParts) (events : List CodeEvent) → GivesUp func reason frames old new events → new.funcs ≡ old.funcs
given_up_funcs func reason frames old new events gives =
    let rest = gives.after in
    rest.after.funcs ∙ sure_funcs _ gives.between rest.between rest.raised_first rest.first ∙ ap (λ c. c.funcs) gives.first.same

-- frames in code, of which each has its code, are placed
placed_there : (funcs : List Func) (code : CodeParts) (frames : List CodeFrame) → code.funcs ≡ funcs → AllByRecursion (IsInCode funcs) frames → AllByRecursion (λ frame. HasCode code frame.code) frames
    → AllByRecursion (IsPlaced code.funcs (start_at code.starts)) frames
placed_there funcs code [] same in_code there = tt
placed_there funcs code (frame ∷ frames) same in_code there =
    (record { code = subst (λ fs. IsInCode fs frame) (sym same) in_code.0; start = started (start_at code.starts frame.code) there.0 }, placed_there funcs code frames same in_code.1 there.1)
  where
    started : (o : Option ℕ) → is_some o ≡ true → (start : ℕ) × (o ≡ Some start)
    started None is = absurd (cc is)
    started (Some start) is = (start, refl)

-- where the machine has no optimised code of the function, or some, neither has the plain machine, or it has some
code_said : (old mid : Machine) (func : FuncId) (b : Bool) → mid.code ≡ old.code → has_code mid.code (optimised_name func) ≡ b → (state : State) → IsInState old state → (code_at state func.0).optimised ≡ b
code_said old mid func b same has state is = sym (is.codes.optimised func) ∙ sym (ap (λ c. has_code c (optimised_name func)) same) ∙ has

-- There is no optimised code of the function, and nothing is done.
pub unoptimised_acts : (old mid : Machine) → WentOn old mid → (func : FuncId) → func.0 < length (program_of old) → (reason : List ℕ) (events : List CodeEvent) → events ≡ []
    → has_code mid.code (optimised_name func) ≡ false → OpActs old mid events (op.Deopt func reason)
unoptimised_acts old mid went func known reason events none absent =
    let same = code_same old mid mid went func known in
    let state_is = code_said old mid func false same absent in
    let says_so : SaysSo mid mid func (deoptimised reason) = record {
      optimised = λ code has flag. has ∙ sym (ap (λ (c : Code). c.optimised) (code_stays reason code (sym has ∙ absent)));
      disabled = λ code has flag. flag ∙ sym (ap (λ (c : Code). c.disabled) (code_stays reason code (sym has ∙ absent)));
      other_code = λ other apart. refl;
      other_flags = λ other apart. refl;
    } in
    let keeps : KeepsCode func mid.code mid.code = record { funcs = refl; stays = λ name had. had; others = λ other apart. refl } in
    let advances = kept_advances old mid mid went func known (deoptimised reason) refl keeps says_so in record {
      whole = went.still;
      program = ap (λ c. c.funcs) same;
      advances = advances;
      code = subst (RangesFollow old.code mid.code) (sym none) (λ ranges lie. subst (λ c. LieAt c ranges) (sym same) lie);
      reasons =
          gives_none old events func (deoptimised reason) mid went.risen known (λ state is. ap (λ (c : Code). c.reason) (code_stays reason (code_at state func.0) (state_is state is)))
          (λ at why lie. ap (λ es. reasons_after at why es) none);
      rules =
          then_keeps old mid mid events (op.Deopt func reason) went.whole went.going went.moved refl refl (ap (λ c. c.funcs) same) advances
          (λ state frame callers is stack_is index frames. subst (λ b. Deopts b func reason (gone_to index old) old mid events) (sym (state_is state is)) (record { code = (same, none); frames = frames }));
    }

-- The machine went on, and gave the function's optimised code up.
module _ (old mid new : Machine) (went : WentOn old mid) (func : FuncId) (known : func.0 < length (program_of old)) (reason : List ℕ) (before events : List CodeEvent) (none : before ≡ [])
    (there : has_code mid.code (optimised_name func) ≡ true) (given : GivenUp func reason mid new before events) where
  same_code_then : mid.code ≡ old.code
  same_code_then = code_same old mid new went func known

  abbrev stack_then : Physical
  stack_then = record mid.stack { frame = new.stack.frame; callers = new.stack.callers }

  funcs_are : new.code.funcs ≡ mid.code.funcs
  funcs_are = given_up_funcs func reason (frames_of new) mid.code new.code given.raises.more given.raises.changed

  in_code : AllByRecursion (IsInCode (program_of mid)) (frames_of mid)
  in_code = all_mapped (IsPlaced (program_of mid) (start_at mid.code.starts)) (IsInCode (program_of mid)) (frames_of mid) (λ frame placed. placed.code) went.still.placed

  -- the stack stands for what it stood for
  positions_are : positions (program_of mid) stack_then ≡ positions (program_of mid) mid.stack
  positions_are = ap (stack_positions (program_of mid)) given.frames ∙ given_up_stand (program_of mid) func.0 (frames_of mid) went.still.program in_code

  stands_then : (stack : List Frame) → Stands (program_of mid) mid.stack stack → Stands (program_of new) new.stack stack
  stands_then stack stands =
      subst (λ it. Stands (program_of new) it stack) (sym (ap (λ m. m.stack) given.same))
      (subst (λ funcs. Stands funcs stack_then stack) (sym funcs_are) (stands ∙ ap (λ ps. framed ps (mid.stack.registers ∷ mid.stack.saved)) (sym positions_are)))

  whole_then : IsMachine new
  whole_then =
      subst IsMachine (sym given.same) (record {
        program = subst IsProgram (sym funcs_are) went.still.program;
        placed =
            placed_there (program_of mid) new.code (frames_of new) funcs_are
            (subst (AllByRecursion (IsInCode (program_of mid))) (sym given.frames) (given_up_are_in_code (program_of mid) func.0 (frames_of mid) went.still.program in_code)) given.there;
        registers = subst (λ funcs. EachHasRegisters funcs stack_then) (sym funcs_are) (ap (λ ps. length ps) positions_are ∙ went.still.registers);
        few = went.still.few;
        flags = went.still.flags ∙ sym (ap length funcs_are);
      })

  says_given : SaysSo mid new func (deoptimised reason)
  says_given =
      let flags : new.disabled ≡ mid.disabled = ap (λ m. m.disabled) given.same in record {
        optimised = λ code has flag. ap is_some given.none ∙ sym (ap (λ (c : Code). c.optimised) (code_goes reason code (sym has ∙ there)));
        disabled = λ code has flag. ap (λ f. flag_at f func.0) flags ∙ flag ∙ sym (ap (λ (c : Code). c.disabled) (code_goes reason code (sym has ∙ there)));
        other_code = λ other apart. ap is_some (given.others other apart);
        other_flags = λ other apart. ap (λ f. flag_at f other.0) flags;
      }

  raised_given : Raises (GivesUp func reason (frames_of new)) (reason_of (program_of old) func reason) old.code new.code before events
  raised_given = subst (λ c. Raises (GivesUp func reason (frames_of new)) (reason_of c.funcs func reason) c new.code before events) same_code_then given.raises

  state_there : (state : State) → IsInState old state → (code_at state func.0).optimised ≡ true
  state_there = code_said old mid func true same_code_then there

  -- the frames afterwards
  frames_then : (state : State) (frame : Frame) (callers : List Frame) → IsInState old state → state.stack ≡ frame ∷ callers
      → frames_of new ≡ all_given_up old.code.funcs func.0 (gone_to (top_index (does (program_of old) state frame callers (op.Deopt func reason))) old)
  frames_then state frame callers is stack_is =
      given.frames
      ∙ ap (λ c. all_given_up c.funcs func.0 (frames_of mid)) same_code_then
      ∙ ap (all_given_up old.code.funcs func.0)
      (risen_to old mid went.whole (ap (λ c. c.funcs) same_code_then) went.moved went.risen (with_code func.0 (deoptimised reason) state) state frame callers is stack_is)

  pub giving_up_acts : OpActs old new events (op.Deopt func reason)
  giving_up_acts =
      let gives = GivesUp func reason (frames_of new) in
      let advances =
      says_on old new func (deoptimised reason) mid went.risen known (ap (λ c. c.funcs) same_code_then) funcs_are says_given stands_then (ap (λ m. m.state) given.same) (ap (λ m. m.rest) given.same)
      (ap (λ m. m.ended) given.same) in record {
        whole = whole_then;
        program = funcs_are ∙ ap (λ c. c.funcs) same_code_then;
        advances = advances;
        code = all_follow gives (reason_of (program_of old) func reason) old.code new.code before events none raised_given;
        reasons =
            gives_reason old events func (deoptimised reason) mid reason went.whole.program went.risen known
            (λ state is. ap (λ (c : Code). c.reason) (code_goes reason (code_at state func.0) (state_there state is)))
            (all_given gives (reason_of (program_of old) func reason) old.code new.code before events none raised_given);
        rules =
            act_goes old new events (op.Deopt func reason) advances (ap (λ m. m.ended) given.same ∙ went.moved.0 ∙ went.going)
            (λ state frame callers is stack_is.
            let index = top_index (does (program_of old) state frame callers (op.Deopt func reason)) in
            let frames = frames_then state frame callers is stack_is in
            subst (λ b. Deopts b func reason (gone_to index old) old new events) (sym (state_there state is)) (record {
              code =
                  subst (λ fs. GivesUp func reason fs old.code new.code events) frames
                  (all_changed gives (reason_of (program_of old) func reason) old.code new.code before events none raised_given);
              frames = frames;
            }));
      }

-- Where the body has no next instruction, `deopt` ends the program.
pub deoptimising_ends : (old new : Machine) (func : FuncId) (reason : List ℕ) (events : List CodeEvent) → IsMachine new → HasRunOff old new → HasMoved false old new → new.code ≡ old.code → events ≡ [] → OpActs old new events (op.Deopt func reason)
deoptimising_ends old new func reason events whole off moved same none =
    let advances = says_off old new func (deoptimised reason) off in record {
      whole = whole;
      program = ap (λ c. c.funcs) same;
      advances = advances;
      code = subst (RangesFollow old.code new.code) (sym none) (λ ranges lie. subst (λ c. LieAt c ranges) (sym same) lie);
      reasons = gives_none_off old events func (deoptimised reason) new off none;
      rules = unmoved_keeps old new events (op.Deopt func reason) advances moved same none;
    }

-- Whether the operation makes a deoptimisation, in each case.
module _ (old mid : Machine) (func : FuncId) (reason : List ℕ) (state : State) (frame : Frame) (callers : List Frame) (is : IsInState old state) (stack_is : state.stack ≡ frame ∷ callers) where
  abbrev makes_one : Bool
  makes_one = op_deopts (program_of old) state frame callers (op.Deopt func reason)

  never : (b : Bool) → (b && false) ≡ false
  never true = refl
  never false = refl

  pub none_off : HasRunOff old mid → false ≡ makes_one
  none_off off =
      sym (ap (λ (s : State). (code_at state func.0).optimised && not (is_some s.ended)) (rises_past (program_of old) state (with_code func.0 (deoptimised reason) state) frame callers (off state frame callers is stack_is).0)
      ∙ never (code_at state func.0).optimised)

  pub none_without : mid.code ≡ old.code → has_code mid.code (optimised_name func) ≡ false → false ≡ makes_one
  none_without same absent = sym (ap (λ b. b && not (is_some (does (program_of old) state frame callers (op.Deopt func reason)).ended)) (code_said old mid func false same absent state is))

  pub one_given_up : WentOn old mid → mid.code ≡ old.code → has_code mid.code (optimised_name func) ≡ true → true ≡ makes_one
  one_given_up went same there =
      let after : State = does (program_of old) state frame callers (op.Deopt func reason) in
      let going : is_some after.ended ≡ false =
      ap (λ (s : State). is_some s.ended) (rises_below (program_of old) state (with_code func.0 (deoptimised reason) state) frame callers (went.risen state frame callers is stack_is).0)
      ∙ ap is_some (sym is.ended ∙ went.going) in
      sym (ap₂ (λ a (e : Bool). a && not e) (code_said old mid func true same there state is) going)
