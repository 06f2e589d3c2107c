-- That what optimises a function, or disables it, is the plain machine's operation.
use Rattle.std.proofs.Common.{◌≡◌, ℕ, ◌<◌, List, [], ◌++◌, length, refl, ap, ◌∙◌, sym, subst}
use Rattle.std.proofs.lemmas.Bool.{ne_eqb}
use Rattle.std.proofs.lemmas.List.{length-set}
use Rattle.std.specs.Prelude.{true, false, ◌&&◌, Option, Some, None, is_some, slice_set, unwrap_or}
use Rattle.prof_base.specs.declared.ids.FuncId.{FuncId}
use Rattle.guest_program.specs.Program.{IsProgram}
use Rattle.guest_program.specs.declared.instr.Op.{Op}
use Rattle.guest_program.specs.declared.instr.Op.TheVariants as op
use Rattle.code_event.proofs.EachElement.{all_mapped}
use Rattle.code_event.specs.DeoptReasons.{DeoptReasons, reasons_after}
use Rattle.code_event.specs.declared.code_map.Range.{Range}
use Rattle.code_event.specs.declared.event.CodeEvent.{CodeEvent}
use Rattle.code_objects.specs.Changes.{HasCode, MakesSure, RangesFollow}
use Rattle.code_objects.specs.CodeObjects.{CodeParts, LieAt, optimised_name, plain_name, start_at}
use Rattle.code_objects.specs.declared.name.CodeName.{CodeName}
use Rattle.guest_machine.proofs.Calls.{code_stays}
use Rattle.guest_machine.proofs.Moved.{then_keeps, unmoved_keeps}
use Rattle.guest_machine.proofs.Said.{SameOptimised, plain_alone}
use Rattle.guest_machine.proofs.Saying.{SaysSo, get_set_other, get_set_same, gives_none_off, gives_reason, says_off, says_on}
use Rattle.guest_machine.specs.Machine.{Advances, HasMoved, HasRisen, HasRunOff, IsMachine, OpActs, flag_at, program_of}
use Rattle.guest_machine.specs.Raises.{Disabled, Raises, reason_of}
use Rattle.guest_machine.specs.Rules.{Change, Disables, IsCreated, IsSure, Then, frames_of, has_code}
use Rattle.guest_stack.specs.Laws.{IsInCode, IsPlaced}
use Rattle.guest_stack.specs.Stack.{EachHasRegisters, Stands}
use Rattle.plain_machine.specs.PlainMachine.{Code, code_at, disabled, says}
use Rattle.guest_machine.specs.declared.machine.Machine.{Machine}

-- what was done is told of the machine and the events that came out
pub same_acts : (old : Machine) (op : Op) {new now : Machine} {events out : List CodeEvent} → now ≡ new → out ≡ events → OpActs old new events op → OpActs old now out op
same_acts old op {new} {now} {events} {out} self_is events_are acts = subst (λ m. OpActs old m out op) (sym self_is) (subst (λ es. OpActs old new es op) (sym events_are) acts)

-- What was raised where nothing had been raised before.
module _ (change : Change) (given : DeoptReasons → DeoptReasons) (old new : CodeParts) (before events : List CodeEvent) (none : before ≡ []) (raises : Raises change given old new before events) where
  more_is : raises.more ≡ events
  more_is = sym (raises.added ∙ ap (λ b. b ++ raises.more) none)

  pub all_changed : change old new events
  all_changed = subst (change old new) more_is raises.changed

  pub all_follow : RangesFollow old new events
  all_follow = subst (RangesFollow old new) more_is raises.ranges

  pub all_given : (at : List Range) (why : DeoptReasons) → LieAt old at → reasons_after at why events ≡ given why
  all_given at why lie = subst (λ es. reasons_after at why es ≡ given why) more_is (raises.reasons at why lie)

-- All code is there still, and no other function has got optimised code.
pub record KeepsCode (func : FuncId) (old new : CodeParts) : Type 0 where
  pub funcs : new.funcs ≡ old.funcs
  pub stays : (name : CodeName) → HasCode old name → HasCode new name
  pub others : (other : FuncId) → (other.0 ≡ func.0 → ⊥) → has_code new (optimised_name other) ≡ has_code old (optimised_name other)

-- there is the code that was made sure of
sure_has : (old new : CodeParts) (name : CodeName) (event : Option CodeEvent) → MakesSure old new name event → HasCode new name
sure_has old new name None sure = subst (λ code. HasCode code name) (sym sure.1) sure.0
sure_has old new name (Some event) sure = ap is_some sure.starts

-- What making sure of plain code keeps,
pub sure_optimised : (func : FuncId) (old new : CodeParts) (events : List CodeEvent) → IsSure (plain_name func) old new events → SameOptimised old new
sure_optimised func old new events sure = plain_alone old new func sure.others

pub sure_keeps : (func : FuncId) (old new : CodeParts) (events : List CodeEvent) → IsSure (plain_name func) old new events → KeepsCode func old new
sure_keeps func old new events sure = record {
  funcs = sure.funcs;
  stays = code_stays old new (plain_name func) (sure_has old new (plain_name func) sure.event sure.sure) sure.others;
  others = λ other apart. sure_optimised func old new events sure other;
}

-- what disabling a function keeps,
pub disables_optimised : (func : FuncId) (reason : List ℕ) (old new : CodeParts) (events : List CodeEvent) → Disables func reason old new events → SameOptimised old new
disables_optimised func reason old new events disables other =
    ap (λ code. has_code code (optimised_name other)) disables.after.same ∙ sure_optimised func old disables.between disables.raised_first disables.first other

pub disables_keeps : (func : FuncId) (reason : List ℕ) (old new : CodeParts) (events : List CodeEvent) → Disables func reason old new events → KeepsCode func old new
disables_keeps func reason old new events disables =
    subst (KeepsCode func old) (sym disables.after.same) (sure_keeps func old disables.between disables.raised_first disables.first)

-- and what creating optimised code keeps.
pub creates_keeps : (func : FuncId) (old new : CodeParts) (events : List CodeEvent) → Then (IsSure (plain_name func)) (IsCreated (optimised_name func)) old new events → KeepsCode func old new
creates_keeps func old new events creates =
    let first = sure_keeps func old creates.between creates.raised_first creates.first in
    let created = creates.after in record {
      funcs = created.funcs ∙ first.funcs;
      stays = λ name had. code_stays creates.between new (optimised_name func) (ap is_some created.creation.starts) created.others name (first.stays name had);
      others = λ other apart.
          ap is_some (created.others (optimised_name other) (ap (λ b. b && true) (ne_eqb func.0 other.0 (λ same. apart (sym same)))))
          ∙ first.others other apart;
    }

pub creates_optimised : (func : FuncId) (old new : CodeParts) (events : List CodeEvent) → Then (IsSure (plain_name func)) (IsCreated (optimised_name func)) old new events → has_code new (optimised_name func) ≡ true
creates_optimised func old new events creates = ap is_some creates.after.creation.starts

-- the machine is whole with this code and these flags
pub whole_with : (mid new : Machine) (func : FuncId) → IsMachine mid → new ≡ record mid { code = new.code; disabled = new.disabled } → length new.disabled ≡ length mid.disabled → KeepsCode func mid.code new.code → IsMachine new
whole_with mid new func whole new_is flags keeps =
    subst IsMachine (sym new_is) (record {
      program = subst IsProgram (sym keeps.funcs) whole.program;
      placed =
          all_mapped (IsPlaced (program_of mid) (start_at mid.code.starts)) (IsPlaced new.code.funcs (start_at new.code.starts)) (frames_of mid)
          (λ frame placed. record {
            code = subst (λ funcs. IsInCode funcs frame) (sym keeps.funcs) placed.code;
            start = started (start_at new.code.starts frame.code) (keeps.stays frame.code (ap is_some placed.start.1));
          })
          whole.placed;
      registers = subst (λ funcs. EachHasRegisters funcs mid.stack) (sym keeps.funcs) whole.registers;
      few = whole.few;
      flags = flags ∙ whole.flags ∙ sym (ap length keeps.funcs);
    })
  where
    started : (o : Option ℕ) → is_some o ≡ true → (start : ℕ) × (o ≡ Some start)
    started None is = absurd (cc is)
    started (Some start) is = (start, refl)

-- The machine went on after its instruction, and nothing else changed.
pub record WentOn (old mid : Machine) : Type 0 where
  pub whole : IsMachine old
  pub going : old.ended ≡ None
  pub still : IsMachine mid
  pub risen : HasRisen old mid
  pub moved : HasMoved true old mid
  pub same : mid ≡ record old { stack = mid.stack; ended = mid.ended }

-- It went on, and then code and flags changed, but no frame did.
module _ (old mid new : Machine) (went : WentOn old mid) (func : FuncId) (known : func.0 < length (program_of old)) where
  pub code_same : mid.code ≡ old.code
  code_same = ap (λ m. m.code) went.same

  known_flag : func.0 < length mid.disabled
  known_flag = subst (λ n. func.0 < n) (sym (went.still.flags ∙ ap (λ c. length c.funcs) code_same)) known

  -- so the plain machine goes on, and says the same
  pub kept_advances : (change : Code → Code) → new ≡ record mid { code = new.code; disabled = new.disabled } → KeepsCode func mid.code new.code → SaysSo mid new func change
      → Advances old new (λ state frame callers. says (program_of old) state frame callers func.0 (change (code_at state func.0)))
  kept_advances change new_is keeps says_so =
      says_on old new func change mid went.risen known (ap (λ c. c.funcs) code_same) keeps.funcs says_so
      (λ stack stands. subst (λ it. Stands (program_of new) it stack) (sym (ap (λ m. m.stack) new_is)) (subst (λ funcs. Stands funcs mid.stack stack) (sym keeps.funcs) stands))
      (ap (λ m. m.state) new_is) (ap (λ m. m.rest) new_is) (ap (λ m. m.ended) new_is)

  -- A function was disabled.
  module _ (reason : List ℕ) (before events : List CodeEvent) (none : before ≡ []) (is_disabled : Disabled func reason mid new before events) where
    flags_are : new.disabled ≡ slice_set mid.disabled func.0 true
    flags_are = ap (λ m. m.disabled) is_disabled.same

    pub changed_is : new ≡ record mid { code = new.code; disabled = new.disabled }
    changed_is = is_disabled.same ∙ ap (λ flags. record mid { code = new.code; disabled = flags }) (sym flags_are)

    pub raised_then : Raises (Disables func reason) (reason_of (program_of old) func reason) old.code new.code before events
    raised_then = subst (λ c. Raises (Disables func reason) (reason_of c.funcs func reason) c new.code before events) code_same is_disabled.raises

    disabling : Disables func reason mid.code new.code is_disabled.raises.more
    disabling = is_disabled.raises.changed

    pub disabled_keeps : KeepsCode func mid.code new.code
    disabled_keeps = disables_keeps func reason mid.code new.code is_disabled.raises.more disabling

    pub disabled_whole : IsMachine new
    disabled_whole = whole_with mid new func went.still changed_is (ap length flags_are ∙ length-set mid.disabled func.0 true) disabled_keeps

    pub flag_set : flag_at new.disabled func.0 ≡ true
    flag_set = ap (λ flags. flag_at flags func.0) flags_are ∙ ap (λ o. unwrap_or o false) (get_set_same mid.disabled func.0 true known_flag)

    pub optimised_same : SameOptimised mid.code new.code
    optimised_same = disables_optimised func reason mid.code new.code is_disabled.raises.more disabling

    -- where the plain machine says that it is disabled too
    pub disabled_says : (change : Code → Code)
        → ((code : Code) → has_code mid.code (optimised_name func) ≡ code.optimised → flag_at mid.disabled func.0 ≡ code.disabled → (code.optimised ≡ (change code).optimised) × ((change code).disabled ≡ true))
        → SaysSo mid new func change
    disabled_says change is = record {
      optimised = λ code has flag. optimised_same func ∙ has ∙ (is code has flag).0;
      disabled = λ code has flag. flag_set ∙ sym (is code has flag).1;
      other_code = λ other apart. optimised_same other;
      other_flags = λ other apart. ap (λ flags. flag_at flags other.0) flags_are ∙ ap (λ o. unwrap_or o false) (get_set_other mid.disabled func.0 other.0 true apart);
    }

    -- `noopt`
    pub refusing_acts : OpActs old new events (op.NoOpt func reason)
    refusing_acts =
        let advances = kept_advances (disabled reason) changed_is disabled_keeps (disabled_says (disabled reason) (λ code has flag. (refl, refl))) in
        let program = disabled_keeps.funcs ∙ ap (λ c. c.funcs) code_same in
        let frames_are = ap frames_of changed_is in record {
          whole = disabled_whole;
          program = program;
          advances = advances;
          code = all_follow (Disables func reason) (reason_of (program_of old) func reason) old.code new.code before events none raised_then;
          reasons =
              gives_reason old events func (disabled reason) mid reason went.whole.program went.risen known (λ state is. refl)
              (all_given (Disables func reason) (reason_of (program_of old) func reason) old.code new.code before events none raised_then);
          rules =
              then_keeps old mid new events (op.NoOpt func reason) went.whole went.going went.moved frames_are (ap (λ m. m.ended) changed_is) program advances
              (λ state frame callers is stack_is index frames. record {
                code = all_changed (Disables func reason) (reason_of (program_of old) func reason) old.code new.code before events none raised_then;
                frames = frames_are ∙ frames;
              });
        }

-- Where the body has no next instruction, `noopt` ends the program.
pub refusing_ends : (old new : Machine) (func : FuncId) (reason : List ℕ) (events : List CodeEvent) → IsMachine new → HasRunOff old new → HasMoved false old new → new.code ≡ old.code → events ≡ [] → OpActs old new events (op.NoOpt func reason)
refusing_ends old new func reason events whole off moved same none =
    let advances = says_off old new func (disabled reason) off in record {
      whole = whole;
      program = ap (λ c. c.funcs) same;
      advances = advances;
      code = subst (RangesFollow old.code new.code) (sym none) (λ ranges lie. subst (λ c. LieAt c ranges) (sym same) lie);
      reasons = gives_none_off old events func (disabled reason) new off none;
      rules = unmoved_keeps old new events (op.NoOpt func reason) advances moved same none;
    }
