-- What a profile shows of a machine: the functions on its stack with their lines, and why functions are not optimised.
use Rattle.std.specs.Prelude.{ℕ, List, [], ◌∷◌, flat_map, Option, None, if◌then◌else◌}
use Rattle.std.specs.Option.{option_map_or}
use Rattle.std.specs.List.{slice_get}
use Rattle.guest_program.specs.declared.instr.Func.{Func}
use Rattle.code_event.specs.CodeMap.{same_entry}
use Rattle.code_event.specs.DeoptReasons.{DeoptReasons}
use Rattle.code_event.specs.Symbolizer.{frames_over}
use Rattle.code_event.specs.declared.entry.Entry.{Entry}
use Rattle.code_event.specs.declared.seen.ResolvedFrame.{ResolvedFrame}
use Rattle.code_layout.specs.Layouts.{entry_of}
use Rattle.plain_machine.specs.PlainMachine.{State, Frame, Code, frames, is_js}

-- the function of a frame, and the line at its index
abbrev pub resolved_frame : List Func → Frame → List ResolvedFrame
resolved_frame funcs frame =
    option_map_or (λ func. option_map_or (λ instr. record { entry = entry_of func; line = instr.line } ∷ []) (slice_get func.body frame.index) [])
    (slice_get funcs frame.func) []

-- the functions on the stack of a machine, oldest first; while its engine is not running guest code, the frame that names what it does
abbrev pub plain_frames : List Func → State → List ResolvedFrame
plain_frames funcs state = if is_js state.state then flat_map (resolved_frame funcs) (frames state) else frames_over [] state.state []

-- the deopt reason of the function with this entry
abbrev pub reason_in : List Func → List Code → Entry → Option (List ℕ)
reason_in (func ∷ funcs) (code ∷ codes) entry = if same_entry (entry_of func) entry then code.reason else reason_in funcs codes entry
reason_in funcs codes entry = None

-- the deopt reasons of a machine
abbrev pub reasons_of : List Func → State → DeoptReasons
reasons_of funcs state entry = reason_in funcs state.code entry
