-- The machine: a program's code at addresses and a physical stack in it; and that it stands for the plain machine.
use Rattle.std.specs.Prelude.{◌≡◌, ◌<◌, ◌≤◌, ◌^◌, ◌-◌, min, ℕ, suc, List, [], ◌∷◌, ◌++◌, length, Bool, true, false, Option, Some, None, is_some, unwrap_or, option_and_then, decimal, codes, not, ◌&&◌}
use Rattle.std.specs.List.{slice_get, AllByRecursion}
use Rattle.prof_base.specs.declared.ids.FuncId.{FuncId}
use Rattle.guest_program.specs.InlinedSize.{body_of}
use Rattle.guest_program.specs.Program.{IsProgram}
use Rattle.guest_program.specs.declared.instr.Func.{Func}
use Rattle.guest_program.specs.declared.instr.Instr.{Instr}
use Rattle.guest_program.specs.declared.instr.Op.{Op}
use Rattle.guest_program.specs.declared.instr.Op.TheVariants as op
use Rattle.code_event.specs.CodeMap.{ranges}
use Rattle.code_event.specs.DeoptReasons.{DeoptReasons, reasons, reasons_after}
use Rattle.code_event.specs.Layout.{site_of}
use Rattle.code_event.specs.Parts.{LayoutParts}
use Rattle.code_event.specs.declared.code_map.Range.{Range}
use Rattle.code_event.specs.declared.entry.Entry.{Entry}
use Rattle.code_event.specs.declared.event.CodeEvent.{CodeEvent}
use Rattle.code_event.specs.declared.layout.Slot.{Slot}
use Rattle.code_layout.specs.Laws.{func_at, slot_of}
use Rattle.code_objects.specs.Changes.{RangesFollow}
use Rattle.code_objects.specs.CodeObjects.{LieAt, layout_of, optimised_name, start_at}
use Rattle.guest_machine.specs.Rules.{IsInlinedAt, KeepsRules, OpKeepsRules, frames_of, has_code}
use Rattle.plain_machine.specs.PlainFrames.{reasons_of}
use Rattle.plain_machine.specs.PlainMachine.{Frame, State, plain, ends, does, wait_step, step, deopts, code_at, gives_up}
use Rattle.guest_stack.specs.Stack.{Stands, EachHasRegisters, at_slot, slot_of_frame}
use Rattle.guest_stack.specs.Laws.{IsAtSlot, IsPlaced}
use Rattle.plain_machine.specs.declared.ended.Ended.TheVariants as end
use Rattle.guest_machine.specs.declared.machine.Machine.{Machine}
use Rattle.guest_machine.specs.declared.machine.StepDone.{StepDone}

-- the program of a machine
abbrev pub program_of : Machine → List Func
program_of machine = machine.code.funcs

-- whether a function has its flag
abbrev pub flag_at : List Bool → ℕ → Bool
flag_at flags func = unwrap_or (slice_get flags func) false

-- the layout of the code that the youngest frame is in
abbrev pub youngest_layout : Machine → LayoutParts
youngest_layout machine = layout_of (program_of machine) machine.stack.frame.code

-- what holds of every machine: each frame is in code, each function on the stack has registers, and at most 255 are there
pub record IsMachine (machine : Machine) : Type 0 where
  pub program : IsProgram (program_of machine)
  pub placed : AllByRecursion (IsPlaced (program_of machine) (start_at machine.code.starts)) (machine.stack.frame ∷ machine.stack.callers)
  pub registers : EachHasRegisters (program_of machine) machine.stack
  pub few : length machine.stack.saved ≤ 254
  pub flags : length machine.disabled ≡ length (program_of machine)

-- Of each function it is said alike, in the machine and in the plain machine, whether it is optimised and whether it is disabled.
pub record AreSaid (machine : Machine) (state : State) : Type 0 where
  pub count : length state.code ≡ length (program_of machine)
  pub optimised : (func : FuncId) → has_code machine.code (optimised_name func) ≡ (code_at state func.0).optimised
  pub disabled : (func : FuncId) → flag_at machine.disabled func.0 ≡ (code_at state func.0).disabled

-- The machine is in this state of the plain machine, except for what has been printed and for deopt reasons, which it does not keep.
pub record IsInState (machine : Machine) (state : State) : Type 0 where
  pub stack : Stands (program_of machine) machine.stack state.stack
  pub codes : AreSaid machine state
  pub engine : machine.state ≡ state.state
  pub rest : machine.rest ≡ state.rest
  pub ended : machine.ended ≡ state.ended

-- The machine is as the plain machine after these steps, and its code and its reasons are as these events say, which it has
-- raised so far.
pub record Reflects (machine : Machine) (steps : ℕ) (events : List CodeEvent) : Type 0 where
  pub state : IsInState machine (plain (program_of machine) steps)
  pub code : LieAt machine.code (ranges events)
  pub reasons : (entry : Entry) → reasons events entry ≡ reasons_of (program_of machine) (plain (program_of machine) steps) entry
  pub counted : machine.steps ≡ min steps (2 ^ 64 - 1)

-- what a step adds to the printed text that prints this number, or none
abbrev pub printed_text : Option ℕ → List ℕ
printed_text None = []
printed_text (Some number) = decimal number ++ codes "\n"

-- the operation of an instruction, or Halt where there is none
abbrev pub op_of : Option Instr → Op
op_of None = op.Halt
op_of (Some instr) = instr.op

-- the body that a slot of the youngest frame's code is in
abbrev pub body_at : Machine → Slot → List Instr
body_at machine slot = body_of (program_of machine) (func_at (youngest_layout machine).units slot.unit)

-- the operation that the machine does next
abbrev pub next_op : Machine → Op
next_op machine = op_of (option_and_then (λ slot. slice_get (body_at machine slot) slot.index) (slot_of_frame (program_of machine) machine.stack.frame))

-- an index is in the body that the youngest frame's instruction is in
abbrev pub IsInYoungestBody : Machine → ℕ → Type 0
IsInYoungestBody machine index = (slot : Slot) → IsAtSlot (program_of machine) machine.stack.frame slot → index < length (body_at machine slot)

-- the unit was inlined at the youngest frame's slot
abbrev pub IsChild : Machine → ℕ → Type 0
IsChild machine unit = IsInlinedAt (program_of machine) machine.stack.frame unit

-- the youngest function was not inlined
abbrev pub IsNotInlined : Machine → Type 0
IsNotInlined machine = (slot : Slot) → IsAtSlot (program_of machine) machine.stack.frame slot → site_of (youngest_layout machine).units slot.unit ≡ None

-- Whatever state of the plain machine it was in, with a youngest frame and its callers, it is now in that which this change gives.
abbrev pub Advances : Machine → Machine → (State → Frame → List Frame → State) → Type 0
Advances old new change = (state : State) (frame : Frame) (callers : List Frame) → IsInState old state → state.stack ≡ frame ∷ callers → IsInState new (change state frame callers)

-- The youngest frame's body has a next instruction, and it is at that.
abbrev pub HasRisen : Machine → Machine → Type 0
HasRisen old new =
    (state : State) (frame : Frame) (callers : List Frame) → IsInState old state → state.stack ≡ frame ∷ callers
    → (suc frame.index < length (body_of (program_of old) frame.func)) × IsInState new (record state { stack = record frame { index = suc frame.index } ∷ callers })

-- The youngest frame's body has no next instruction, and the program has ended.
abbrev pub HasRunOff : Machine → Machine → Type 0
HasRunOff old new =
    (state : State) (frame : Frame) (callers : List Frame) → IsInState old state → state.stack ≡ frame ∷ callers
    → (length (body_of (program_of old) frame.func) ≤ suc frame.index) × IsInState new (ends end.OffEnd state)

abbrev pub Rises : Bool → Machine → Machine → Type 0
Rises true old new = HasRisen old new
Rises false old new = HasRunOff old new

-- the events are of code alone: they give no reason
abbrev pub GiveNoReason : List CodeEvent → Type 0
GiveNoReason events = (ranges : List Range) (why : DeoptReasons) → reasons_after ranges why events ≡ why

-- What an act does that may create, free or move code, but gives no reason: this change of the plain machine, and these events, by
-- which its ranges follow.
pub record Acts (old new : Machine) (events : List CodeEvent) (change : State → Frame → List Frame → State) : Type 0 where
  pub whole : IsMachine new
  pub program : program_of new ≡ program_of old
  pub does : Advances old new change
  pub code : RangesFollow old.code new.code events
  pub no_reason : GiveNoReason events

-- Whatever reasons there were, if these are the plain machine's, those after the events are the plain machine's after this change.
abbrev pub GivesReasons : Machine → List CodeEvent → (State → Frame → List Frame → State) → Type 0
GivesReasons old events change =
    (state : State) (frame : Frame) (callers : List Frame) (at : List Range) (why : DeoptReasons) → IsInState old state → state.stack ≡ frame ∷ callers → LieAt old.code at
    → ((entry : Entry) → why entry ≡ reasons_of (program_of old) state entry)
    → (entry : Entry) → reasons_after at why events entry ≡ reasons_of (program_of old) (change state frame callers) entry

-- Whatever state of the plain machine it was in, an operation that raised these events kept the rules.
abbrev pub ActKeepsRules : Machine → Machine → List CodeEvent → Op → Type 0
ActKeepsRules old new events op =
    (state : State) (frame : Frame) (callers : List Frame) → IsInState old state → state.stack ≡ frame ∷ callers
    → OpKeepsRules state (does (program_of old) state frame callers op) op old new events

-- Where the program goes on, the youngest frame is at an index of the unit that it was in. Else all frames are where they were.
abbrev pub HasMoved : Bool → Machine → Machine → Type 0
HasMoved true old new =
    (new.ended ≡ old.ended)
    × ((slot : Slot) → IsAtSlot (program_of old) old.stack.frame slot
    → (index place : ℕ) × (slot_of (youngest_layout old) slot.unit index ≡ Some place) × (frames_of new ≡ at_slot old.stack.frame place ∷ old.stack.callers))
HasMoved false old new = (is_some new.ended ≡ true) × (frames_of new ≡ frames_of old)

-- An operation moved the youngest frame within its unit, or ended the program.
abbrev pub StaysInUnit : Machine → Machine → Type 0
StaysInUnit old new = (moved : Bool) × HasMoved moved old new

-- What an operation did: that of the plain machine, with these events, by which its ranges and its reasons follow, and by the rules.
pub record OpActs (old new : Machine) (events : List CodeEvent) (op : Op) : Type 0 where
  pub whole : IsMachine new
  pub program : program_of new ≡ program_of old
  pub advances : Advances old new (λ state frame callers. does (program_of old) state frame callers op)
  pub code : RangesFollow old.code new.code events
  pub reasons : GivesReasons old events (λ state frame callers. does (program_of old) state frame callers op)
  pub rules : ActKeepsRules old new events op

-- Whether an operation makes a deoptimisation: it gives optimised code up, and does not end the program.
abbrev pub op_deopts : List Func → State → Frame → List Frame → Op → Bool
op_deopts funcs state frame callers op = gives_up state op && not (is_some (does funcs state frame callers op).ended)

-- What a step in state Js did: this operation of the plain machine.
pub record DoesOp (old new : Machine) (done : StepDone) (op : Op) : Type 0 where
  pub acts : OpActs old new done.events op
  pub tick :
      (state : State) (frame : Frame) (callers : List Frame) → IsInState old state → state.stack ≡ frame ∷ callers
      → done.vm_tick ≡ op_deopts (program_of old) state frame callers op
  pub printed :
      (state : State) (frame : Frame) (callers : List Frame) → IsInState old state → state.stack ≡ frame ∷ callers
      → (does (program_of old) state frame callers op).printed ≡ state.printed ++ printed_text done.printed
  pub engine : done.state ≡ new.state

-- What a step in another state did: it waited, and raised nothing.
pub record Waits (old new : Machine) (done : StepDone) : Type 0 where
  pub whole : IsMachine new
  pub code : new.code ≡ old.code
  pub frames : frames_of new ≡ frames_of old
  pub does : Advances old new (λ state frame callers. wait_step state)
  pub events : done.events ≡ []
  pub tick : done.vm_tick ≡ false
  pub printed : done.printed ≡ None
  pub engine : done.state ≡ new.state

-- What a step did, in any state of the engine: this step of the plain machine.
pub record Steps (old new : Machine) (done : StepDone) : Type 0 where
  pub whole : IsMachine new
  pub program : program_of new ≡ program_of old
  pub does : (state : State) → IsInState old state → IsInState new (step (program_of old) state)
  pub code : RangesFollow old.code new.code done.events
  pub reasons :
      (state : State) (at : List Range) (why : DeoptReasons) → IsInState old state → LieAt old.code at
      → ((entry : Entry) → why entry ≡ reasons_of (program_of old) state entry)
      → (entry : Entry) → reasons_after at why done.events entry ≡ reasons_of (program_of old) (step (program_of old) state) entry
  pub rules : (state : State) → IsInState old state → KeepsRules state old new done.events
  pub tick : (steps : ℕ) → IsInState old (plain (program_of old) steps) → done.vm_tick ≡ deopts (program_of old) steps
  pub printed : (state : State) → IsInState old state → (step (program_of old) state).printed ≡ state.printed ++ printed_text done.printed
  pub engine : done.state ≡ new.state
