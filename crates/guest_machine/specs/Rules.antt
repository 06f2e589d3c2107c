-- The rules by which the machine changes its code and its frames: which events a step raises, and in what code and slots the frames are afterwards.
use Rattle.std.specs.Prelude.{◌≡◌, ℕ, suc, List, [], ◌∷◌, ◌++◌, map, Bool, true, false, not, ◌&&◌, ◌||◌, Option, Some, is_some, unwrap_or, option_and_then, option_to_list, nat_lt, reverse, codes, if◌then◌else◌}
use Rattle.std.specs.Option.{option_map_or}
use Rattle.std.specs.List.{slice_get, list_any}
use Rattle.prof_base.specs.declared.ids.FuncId.{FuncId}
use Rattle.guest_program.specs.InlinedSize.{inlined_size}
use Rattle.guest_program.specs.declared.instr.Func.{Func}
use Rattle.guest_program.specs.declared.instr.Op.{Op}
use Rattle.guest_program.specs.declared.instr.Op.TheVariants as op
use Rattle.code_event.specs.Layout.{site_of}
use Rattle.code_event.specs.declared.event.CodeEvent.{CodeEvent}
use Rattle.code_event.specs.declared.event.CodeEvent.TheVariants.{NoOpt, Deopt}
use Rattle.code_event.specs.declared.layout.Site.{Site}
use Rattle.code_event.specs.declared.layout.Slot.{Slot}
use Rattle.code_event.specs.declared.layout.TheConstants.Layout.{MAX_ABOVE, MAX_SLOTS}
use Rattle.code_layout.specs.Laws.{slot_of}
use Rattle.code_space.specs.Compaction.{compacted, moves_between}
use Rattle.code_space.specs.declared.range.TheConstants.{FIRST_ADDRESS}
use Rattle.code_objects.specs.Changes.{IsCreation, IsDeletion, MakesSure, OthersStay, move_event, same_name, with_moves}
use Rattle.code_objects.specs.CodeObjects.{CodeParts, layout_of, optimised_name, plain_name, start_at}
use Rattle.code_objects.specs.declared.name.CodeName.{CodeName}
use Rattle.plain_machine.specs.PlainMachine.{Code, Frame, State, code_at, instr_of, is_js, main_of, step}
use Rattle.guest_stack.specs.Stack.{all_given_up, at_slot, first_frame, slot_of_frame}
use Rattle.guest_stack.specs.Laws.{IsAtSlot}
use Rattle.guest_stack.specs.declared.stack.CodeFrame.{CodeFrame}
use Rattle.guest_machine.specs.declared.machine.Machine.{Machine}

-- A change of the code objects, and the events that it raises, in order.
abbrev pub Change : Type 1
Change = CodeParts → CodeParts → List CodeEvent → Type 0

-- Nothing changes.
abbrev pub Unchanged : Change
Unchanged old new events = (new ≡ old) × (events ≡ [])

-- One change is made, and then another.
pub record Then (one other : Change) (old new : CodeParts) (events : List CodeEvent) : Type 0 where
  pub between : CodeParts
  pub raised_first : List CodeEvent
  pub raised_then : List CodeEvent
  pub first : one old between raised_first
  pub after : other between new raised_then
  pub raised : events ≡ raised_first ++ raised_then

-- The one change is made where a test holds, and else the other.
abbrev pub Choice : Bool → Change → Change → Change
Choice true one other = one
Choice false one other = other

-- It is made sure that there is code with this name: where there is none, it is created at the least address at which it fits.
pub record IsSure (name : CodeName) (old new : CodeParts) (events : List CodeEvent) : Type 0 where
  pub event : Option CodeEvent
  pub sure : MakesSure old new name event
  pub others : OthersStay old new name
  pub funcs : new.funcs ≡ old.funcs
  pub raised : events ≡ option_to_list event

-- It is made sure of the code with each of these names, one after the other.
abbrev pub AreSure : List CodeName → Change
AreSure [] = Unchanged
AreSure (name ∷ names) = Then (IsSure name) (AreSure names)

-- The code with this name, of which there was none, is created at the least address at which it fits.
pub record IsCreated (name : CodeName) (old new : CodeParts) (events : List CodeEvent) : Type 0 where
  pub event : CodeEvent
  pub creation : IsCreation old new name event
  pub others : OthersStay old new name
  pub funcs : new.funcs ≡ old.funcs
  pub raised : events ≡ event ∷ []

-- The code with this name is freed.
pub record IsFreed (name : CodeName) (old new : CodeParts) (events : List CodeEvent) : Type 0 where
  pub event : CodeEvent
  pub deletion : IsDeletion old new name event
  pub others : OthersStay old new name
  pub funcs : new.funcs ≡ old.funcs
  pub raised : events ≡ event ∷ []

-- All code slides down to the first address, in the order that it had, and each code object that moves has its event.
pub record IsCompacted (old new : CodeParts) (events : List CodeEvent) : Type 0 where
  pub space : new.space ≡ compacted FIRST_ADDRESS old.space
  pub starts : (name : CodeName) → start_at new.starts name ≡ with_moves (start_at old.starts) (moves_between old.space (compacted FIRST_ADDRESS old.space)) name
  pub funcs : new.funcs ≡ old.funcs
  pub raised : events ≡ map move_event (moves_between old.space (compacted FIRST_ADDRESS old.space))

-- The plain code of a function is said not to be optimised, for this reason.
pub record IsNotOptimised (func : FuncId) (reason : List ℕ) (old new : CodeParts) (events : List CodeEvent) : Type 0 where
  pub same : new ≡ old
  pub start : ℕ
  pub starts : start_at old.starts (plain_name func) ≡ Some start
  pub raised : events ≡ NoOpt start reason ∷ []

-- The optimised code of a function is said to be given up, for this reason.
pub record IsGivenUp (func : FuncId) (reason : List ℕ) (old new : CodeParts) (events : List CodeEvent) : Type 0 where
  pub same : new ≡ old
  pub start : ℕ
  pub starts : start_at old.starts (optimised_name func) ≡ Some start
  pub raised : events ≡ Deopt start reason ∷ []

-- `noopt`: plain code is made sure of, and is not to be optimised.
abbrev pub Disables : FuncId → List ℕ → Change
Disables func reason = Then (IsSure (plain_name func)) (IsNotOptimised func reason)

-- `opt` of a function with this code and this inlined size: plain code is made sure of; what is too large is disabled, and what is
-- not gets optimised code.
abbrev pub Optimises : FuncId → Code → ℕ → Change
Optimises func code size =
    Choice (code.optimised || code.disabled) Unchanged
    (Choice (nat_lt MAX_SLOTS size) (Disables func (codes "too large")) (Then (IsSure (plain_name func)) (IsCreated (optimised_name func))))

-- `deopt` of optimised code, where these are the frames afterwards, youngest first: the code of each is made sure of, the oldest
-- frame's first, and only then is the optimised code freed.
abbrev pub GivesUp : FuncId → List ℕ → List CodeFrame → Change
GivesUp func reason frames = Then (IsGivenUp func reason) (Then (AreSure (map (λ frame. frame.code) (reverse frames))) (IsFreed (optimised_name func)))

-- there is code with this name
abbrev pub has_code : CodeParts → CodeName → Bool
has_code code name = is_some (start_at code.starts name)

-- a frame is in the code with this name
abbrev pub is_any_in : List CodeFrame → CodeName → Bool
is_any_in frames name = list_any (λ frame. same_name name frame.code) frames

-- `drop`: plain code is freed, where there is some and none of these frames is in it.
abbrev pub Drops : FuncId → List CodeFrame → Change
Drops func frames old = Choice (has_code old (plain_name func) && not (is_any_in frames (plain_name func))) (IsFreed (plain_name func)) Unchanged old

-- the frame is at the slot of this unit and this index of its code
abbrev pub at_unit : List Func → ℕ → ℕ → CodeFrame → CodeFrame
at_unit funcs unit index frame = at_slot frame (unwrap_or (slot_of (layout_of funcs frame.code) unit index) frame.slot)

-- the frame goes on at this index of its unit
abbrev pub at_index : List Func → ℕ → CodeFrame → CodeFrame
at_index funcs index frame = option_map_or (λ slot. at_unit funcs slot.unit index frame) (slot_of_frame funcs frame) frame

-- the frame goes on after its instruction
abbrev pub after_instr : List Func → CodeFrame → CodeFrame
after_instr funcs frame = option_map_or (λ slot. at_unit funcs slot.unit (suc slot.index) frame) (slot_of_frame funcs frame) frame

-- the call at which the unit of a frame's slot was inlined, if it was
abbrev pub own_site : List Func → CodeFrame → Option Site
own_site funcs frame = option_and_then (λ (slot : Slot). site_of (layout_of funcs frame.code).units slot.unit) (slot_of_frame funcs frame)

-- the youngest of these frames goes on after its instruction
abbrev pub resumed_frames : List Func → List CodeFrame → List CodeFrame
resumed_frames funcs [] = []
resumed_frames funcs (frame ∷ callers) = after_instr funcs frame ∷ callers

-- the frames after a return: the unit above goes on after its call, or else the next frame does
abbrev pub returned_frames : List Func → CodeFrame → List CodeFrame → List CodeFrame
returned_frames funcs frame callers = option_map_or (λ site. at_unit funcs site.unit (suc site.index) frame ∷ callers) (own_site funcs frame) (resumed_frames funcs callers)

-- the unit was inlined at the frame's slot
abbrev pub IsInlinedAt : List Func → CodeFrame → ℕ → Type 0
IsInlinedAt funcs frame unit =
    (slot : Slot) → IsAtSlot funcs frame slot
    → (site : Site) × (site_of (layout_of funcs frame.code).units unit ≡ Some site) × (site.unit ≡ slot.unit) × (site.index ≡ slot.index)

-- the code in which a function is called: optimised code where there is some, else plain code
abbrev pub code_called : CodeParts → FuncId → CodeName
code_called code func = if has_code code (optimised_name func) then optimised_name func else plain_name func

-- the frames of a machine, youngest first
abbrev pub frames_of : Machine → List CodeFrame
frames_of machine = machine.stack.frame ∷ machine.stack.callers

-- The code changes so, and these are the frames afterwards.
pub record Becomes (change : Change) (after : List CodeFrame) (old new : Machine) (events : List CodeEvent) : Type 0 where
  pub code : change old.code new.code events
  pub frames : frames_of new ≡ after

-- A call. Where the function was inlined, the frame goes to its first slot. Where it was not, a frame is added, in the code in which
-- it is called, which is made sure of.
pub record Calls (func : FuncId) (old new : Machine) (events : List CodeEvent) : Type 0 where
  pub within :
      (unit : ℕ) → IsInlinedAt old.code.funcs old.stack.frame unit
      → Becomes Unchanged (at_unit old.code.funcs unit 0 old.stack.frame ∷ old.stack.callers) old new events
  pub out :
      ((unit : ℕ) → IsInlinedAt old.code.funcs old.stack.frame unit → ⊥)
      → Becomes (IsSure (code_called old.code func)) (first_frame (code_called old.code func) ∷ frames_of old) old new events

-- the frames where the youngest goes on at this index
abbrev pub gone_to : ℕ → Machine → List CodeFrame
gone_to index old = at_index old.code.funcs index old.stack.frame ∷ old.stack.callers

-- Optimised code is given up where there is some.
abbrev pub Deopts : Bool → FuncId → List ℕ → List CodeFrame → Machine → Machine → List CodeEvent → Type 0
Deopts true func reason frames old new events =
    let after : List CodeFrame = all_given_up old.code.funcs func.0 frames in Becomes (GivesUp func reason after) after old new events
Deopts false func reason frames old new events = Becomes Unchanged frames old new events

-- What an operation does that does not end the program, where the plain machine was in this state, and its youngest frame goes on at
-- this index.
abbrev pub Does : State → ℕ → Op → Machine → Machine → List CodeEvent → Type 0
Does state index (op.Call func) old new events = Calls func old new events
Does state index op.Ret old new events = Becomes Unchanged (returned_frames old.code.funcs old.stack.frame old.stack.callers) old new events
Does state index (op.Opt func) old new events =
    Becomes (Optimises func (code_at state func.0) (inlined_size old.code.funcs MAX_ABOVE func.0)) (gone_to index old) old new events
Does state index (op.NoOpt func reason) old new events = Becomes (Disables func reason) (gone_to index old) old new events
Does state index (op.Deopt func reason) old new events = Deopts (code_at state func.0).optimised func reason (gone_to index old) old new events
Does state index (op.Drop func) old new events = Becomes (Drops func (gone_to index old)) (gone_to index old) old new events
Does state index op.Gc old new events = Becomes IsCompacted (gone_to index old) old new events
Does state index other old new events = Becomes Unchanged (gone_to index old) old new events

-- the index of a machine's youngest frame
abbrev pub top_index : State → ℕ
top_index state = option_map_or (λ (frame : Frame). frame.index) (slice_get state.stack 0) 0

-- What an operation does that leads the plain machine from one state to another. Where it ends the program, nothing changes.
abbrev pub EndsOrDoes : Bool → State → State → Op → Machine → Machine → List CodeEvent → Type 0
EndsOrDoes true before after op old new events = Becomes Unchanged (frames_of old) old new events
EndsOrDoes false before after op old new events = Does before (top_index after) op old new events

-- The operation keeps the rules.
abbrev pub OpKeepsRules : State → State → Op → Machine → Machine → List CodeEvent → Type 0
OpKeepsRules before after op old new events = EndsOrDoes (is_some after.ended) before after op old new events

-- the operation that a machine does next in state Js, or Halt where there is none
abbrev pub plain_op : List Func → State → Op
plain_op funcs state = option_map_or (λ instr. instr.op) (option_and_then (instr_of funcs) (slice_get state.stack 0)) op.Halt

-- A step that waits changes nothing, and another keeps the rules of its operation.
abbrev pub WaitsOrActs : Bool → State → Machine → Machine → List CodeEvent → Type 0
WaitsOrActs true state old new events = OpKeepsRules state (step old.code.funcs state) (plain_op old.code.funcs state) old new events
WaitsOrActs false state old new events = Becomes Unchanged (frames_of old) old new events

-- A step keeps the rules, from this state of the plain machine.
abbrev pub KeepsRules : State → Machine → Machine → List CodeEvent → Type 0
KeepsRules state old new events = WaitsOrActs (is_js state.state) state old new events

-- The machine opens: there was no code, the plain code of `main` is made sure of, and the one frame is at its first slot.
pub record Opens (machine : Machine) (event : CodeEvent) : Type 0 where
  pub before : CodeParts
  pub funcs : before.funcs ≡ machine.code.funcs
  pub none : before.space ≡ []
  pub main : FuncId
  pub main_is : main.0 ≡ main_of machine.code.funcs
  pub code : IsSure (plain_name main) before machine.code (event ∷ [])
  pub frames : frames_of machine ≡ first_frame (plain_name main) ∷ []
