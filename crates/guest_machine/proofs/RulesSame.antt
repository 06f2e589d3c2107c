-- That the rules speak of the code and the frames of a machine alone.
use Rattle.std.proofs.Common.{◌≡◌, ℕ, List, ◌∙◌, sym, subst}
use Rattle.std.specs.Prelude.{Bool, true, false, is_some}
use Rattle.prof_base.specs.declared.ids.FuncId.{FuncId}
use Rattle.guest_program.specs.declared.instr.Op.{Op}
use Rattle.guest_program.specs.declared.instr.Op.TheVariants as op
use Rattle.code_event.specs.declared.event.CodeEvent.{CodeEvent}
use Rattle.plain_machine.specs.PlainMachine.{State, code_at, is_js, step}
use Rattle.guest_stack.specs.declared.stack.CodeFrame.{CodeFrame}
use Rattle.guest_machine.specs.Rules.{Becomes, Change, Deopts, Does, EndsOrDoes, KeepsRules, WaitsOrActs, frames_of, gone_to, plain_op, top_index}
use Rattle.guest_machine.specs.declared.machine.Machine.{Machine}

-- Two machines with the same code and the same frames.
module _ (old mid new : Machine) (events : List CodeEvent) (code : new.code ≡ mid.code) (frames : frames_of new ≡ frames_of mid) where
  becomes_same : (change : Change) (after : List CodeFrame) → Becomes change after old mid events → Becomes change after old new events
  becomes_same change after is = record { code = subst (λ c. change old.code c events) (sym code) is.code; frames = frames ∙ is.frames }

  deopts_same : (given_up : Bool) (func : FuncId) (reason : List ℕ) (after : List CodeFrame) → Deopts given_up func reason after old mid events → Deopts given_up func reason after old new events
  deopts_same true func reason after is = becomes_same _ _ is
  deopts_same false func reason after is = becomes_same _ _ is

  does_same : (state : State) (index : ℕ) (op : Op) → Does state index op old mid events → Does state index op old new events
  does_same state index (op.Call func) is = record {
    within = λ unit inlined. becomes_same _ _ (is.within unit inlined);
    out = λ none. becomes_same _ _ (is.out none);
  }
  does_same state index op.Ret is = becomes_same _ _ is
  does_same state index (op.Opt func) is = becomes_same _ _ is
  does_same state index (op.NoOpt func reason) is = becomes_same _ _ is
  does_same state index (op.Deopt func reason) is = deopts_same (code_at state func.0).optimised func reason (gone_to index old) is
  does_same state index (op.Drop func) is = becomes_same _ _ is
  does_same state index op.Gc is = becomes_same _ _ is
  does_same state index (op.Set to number) is = becomes_same _ _ is
  does_same state index (op.Add to from) is = becomes_same _ _ is
  does_same state index (op.Sub to from) is = becomes_same _ _ is
  does_same state index (op.Mul to from) is = becomes_same _ _ is
  does_same state index (op.Lt to from) is = becomes_same _ _ is
  does_same state index (op.Jump place) is = becomes_same _ _ is
  does_same state index (op.Jz tested place) is = becomes_same _ _ is
  does_same state index (op.Print from) is = becomes_same _ _ is
  does_same state index op.Halt is = becomes_same _ _ is
  does_same state index (op.Idle steps) is = becomes_same _ _ is
  does_same state index (op.Native steps) is = becomes_same _ _ is
  does_same state index (op.Collect steps) is = becomes_same _ _ is

  ends_same : (ended : Bool) (before after : State) (op : Op) → EndsOrDoes ended before after op old mid events → EndsOrDoes ended before after op old new events
  ends_same true before after op is = becomes_same _ _ is
  ends_same false before after op is = does_same before (top_index after) op is

  waits_same : (acts : Bool) (state : State) → WaitsOrActs acts state old mid events → WaitsOrActs acts state old new events
  waits_same true state is = ends_same (is_some (step old.code.funcs state).ended) state (step old.code.funcs state) (plain_op old.code.funcs state) is
  waits_same false state is = becomes_same _ _ is

pub rules_same : (state : State) (old mid new : Machine) (events : List CodeEvent) → new.code ≡ mid.code → frames_of new ≡ frames_of mid → KeepsRules state old mid events → KeepsRules state old new events
rules_same state old mid new events code frames is = waits_same old mid new events code frames (is_js state.state) state is
