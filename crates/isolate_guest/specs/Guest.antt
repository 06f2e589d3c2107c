-- What an isolate sees of a guest machine: the moments of its program.
use Rattle.std.specs.Prelude.{◌≡◌, ℕ, List, [], ◌∷◌}
use Rattle.guest_program.specs.declared.instr.Func.{Func}
use Rattle.code_event.specs.CodeMap.{ranges}
use Rattle.code_event.specs.DeoptReasons.{reasons}
use Rattle.code_event.specs.declared.entry.Entry.{Entry}
use Rattle.code_event.specs.declared.event.CodeEvent.{CodeEvent}
use Rattle.code_objects.specs.CodeObjects.{start_at}
use Rattle.plain_machine.specs.PlainFrames.{reasons_of}
use Rattle.plain_machine.specs.PlainMachine.{plain}
use Rattle.guest_stack.specs.Stack.{addresses}
use Rattle.guest_machine.specs.Machine.{IsMachine, Reflects, program_of}
use Rattle.guest_machine.specs.declared.machine.Machine.{Machine}
use Rattle.raised_so_far.specs.ItemsSoFar.{IsCodeEvent}
use Rattle.isolate_acts.specs.Progress.{Moment}
use Rattle.isolate_acts.specs.Stands.{IsMoment}

-- the addresses on a machine's stack, youngest first
abbrev pub stack_of : Machine → List ℕ
stack_of machine = addresses (start_at machine.code.starts) (machine.stack.frame ∷ machine.stack.callers)

-- The machine is at this moment of its program. These are the events that it has raised so far, by which its code lies and its reasons are.
pub record IsAt (machine : Machine) (moment : Moment) : Type 0 where
  pub events : List CodeEvent
  pub reflects : Reflects machine moment.steps events
  pub funcs : moment.funcs ≡ program_of machine
  pub code : moment.code ≡ ranges events
  pub state : moment.state ≡ machine.state
  pub stack : moment.stack ≡ stack_of machine

-- The moment before the first step of a program, whose code was created by this event alone.
pub record OpensAt (program : List Func) (event : CodeEvent) (moment : Moment) : Type 0 where
  pub funcs : moment.funcs ≡ program
  pub steps : moment.steps ≡ 0
  pub code : moment.code ≡ ranges (event ∷ [])
  pub of_code : IsCodeEvent event
  pub reasons : (entry : Entry) → reasons (event ∷ []) entry ≡ reasons_of program (plain program 0) entry
  pub shows : IsMoment moment

-- wherever a machine is, the stack of the moment, read through the ranges of its code, is the plain machine's
abbrev pub GuestsShow : Type 0
GuestsShow = (machine : Machine) (moment : Moment) → IsMachine machine → IsAt machine moment → IsMoment moment
