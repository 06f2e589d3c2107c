-- What the parts of an operation do to the code, with the events that they add to those raised so far.
use Rattle.std.specs.Prelude.{◌≡◌, ℕ, List, ◌++◌, ◌<◌, length, slice_set, Bool, true, false, None, codes}
use Rattle.std.specs.List.{AllByRecursion}
use Rattle.prof_base.specs.declared.ids.FuncId.{FuncId}
use Rattle.guest_program.specs.declared.instr.Func.{Func}
use Rattle.code_event.specs.DeoptReasons.{DeoptReasons, reasons_after, with_reason}
use Rattle.code_event.specs.declared.code_map.Range.{Range}
use Rattle.code_event.specs.declared.event.CodeEvent.{CodeEvent}
use Rattle.code_layout.specs.Layouts.{entry_at}
use Rattle.code_objects.specs.Changes.{HasCode, RangesFollow}
use Rattle.code_objects.specs.CodeObjects.{CodeParts, LieAt, optimised_name, plain_name, start_at}
use Rattle.code_objects.specs.declared.name.CodeName.{CodeName}
use Rattle.guest_stack.specs.Stack.{all_given_up, is_optimised}
use Rattle.guest_machine.specs.Rules.{Change, Disables, GivesUp, IsCreated, IsSure, Then, frames_of}
use Rattle.guest_machine.specs.declared.machine.Machine.{Machine}

-- no reason is given
abbrev pub no_reason : DeoptReasons → DeoptReasons
no_reason why = why

-- a function gets this reason
abbrev pub reason_of : List Func → FuncId → List ℕ → DeoptReasons → DeoptReasons
reason_of funcs func reason why = with_reason why reason (entry_at funcs func.0)

-- The code changes so, which adds these events to those raised so far. The ranges follow, and the reasons become these.
pub record Raises (change : Change) (given : DeoptReasons → DeoptReasons) (old new : CodeParts) (before after : List CodeEvent) : Type 0 where
  pub more : List CodeEvent
  pub added : after ≡ before ++ more
  pub changed : change old new more
  pub ranges : RangesFollow old new more
  pub reasons : (at : List Range) (why : DeoptReasons) → LieAt old at → reasons_after at why more ≡ given why

-- all code that was there is there still, perhaps elsewhere
abbrev pub NoneGoes : CodeParts → CodeParts → Type 0
NoneGoes old new = (name : CodeName) → HasCode old name → HasCode new name

-- the optimised code is where it was
abbrev pub OptimisedStays : CodeParts → CodeParts → Type 0
OptimisedStays old new = (func : FuncId) → start_at new.starts (optimised_name func) ≡ start_at old.starts (optimised_name func)

-- the code with this name is of a function of the program, and is there already if it is optimised
pub record CanBeSure (code : CodeParts) (name : CodeName) : Type 0 where
  pub func : name.func.0 < length code.funcs
  pub there : is_optimised name.kind ≡ true → HasCode code name

-- A function has been disabled, and nothing else has changed.
pub record Disabled (func : FuncId) (reason : List ℕ) (old new : Machine) (before after : List CodeEvent) : Type 0 where
  pub raises : Raises (Disables func reason) (reason_of old.code.funcs func reason) old.code new.code before after
  pub same : new ≡ record old { code = new.code; disabled = slice_set old.disabled func.0 true }

-- A function has got optimised code, and nothing else has changed.
pub record Optimised (func : FuncId) (old new : Machine) (before after : List CodeEvent) : Type 0 where
  pub raises : Raises (Then (IsSure (plain_name func)) (IsCreated (optimised_name func))) no_reason old.code new.code before after
  pub same : new ≡ record old { code = new.code }

-- A function has been disabled where its code would be too large, and else has got optimised code.
abbrev pub Creates : Bool → FuncId → Machine → Machine → List CodeEvent → List CodeEvent → Type 0
Creates true func = Disabled func (codes "too large")
Creates false func = Optimised func

-- Optimised code has been given up, with the frames that were in it, and nothing else has changed.
pub record GivenUp (func : FuncId) (reason : List ℕ) (old new : Machine) (before after : List CodeEvent) : Type 0 where
  pub raises : Raises (GivesUp func reason (frames_of new)) (reason_of old.code.funcs func reason) old.code new.code before after
  pub frames : frames_of new ≡ all_given_up old.code.funcs func.0 (frames_of old)
  pub same : new ≡ record old { code = new.code; stack = record old.stack { frame = new.stack.frame; callers = new.stack.callers } }
  pub there : AllByRecursion (λ frame. HasCode new.code frame.code) (frames_of new)
  pub none : start_at new.code.starts (optimised_name func) ≡ None
  pub others : (other : FuncId) → (other.0 ≡ func.0 → ⊥) → start_at new.code.starts (optimised_name other) ≡ start_at old.code.starts (optimised_name other)
