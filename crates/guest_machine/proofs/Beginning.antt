-- The machine before its first step.
use Rattle.std.proofs.Common.{◌≡◌, ℕ, zero, suc, ◌+◌, ◌<◌, ◌≤◌, List, [], ◌∷◌, length, map, refl, ap, ◌∙◌, sym, subst, arith}
use Rattle.std.proofs.lemmas.Bool.{cond-true, cond-false, false_from_ne_true}
use Rattle.std.proofs.lemmas.List.{length-map, length-replicate}
use Rattle.std.proofs.lemmas.Slice.Eq.{bytes_eq-Decides}
use Rattle.std.specs.Prelude.{◌≢◌, Bool, true, false, cond, bytes_eq, Option, Some, None, IsSome, codes, replicate}
use Rattle.std.specs.Option.{option_map_or}
use Rattle.std.specs.List.{slice_get, AllByRecursion}
use Rattle.prof_base.specs.declared.ids.FuncId.{FuncId}
use Rattle.guest_program.specs.Program.{AllDiffer, IsMain, IsProgram}
use Rattle.guest_program.specs.declared.instr.Func.{Func}
use Rattle.code_event.specs.DeoptReasons.{reasons}
use Rattle.code_event.specs.declared.entry.Entry.{Entry}
use Rattle.code_event.specs.declared.event.CodeEvent.{CodeEvent}
use Rattle.code_event.specs.declared.tick.VmState.TheVariants.{Js}
use Rattle.code_layout.specs.Layouts.{entry_of}
use Rattle.code_event.specs.CodeMap.{same_entry}
use Rattle.code_objects.specs.Changes.{HasCode, IsCreation, OthersStay, RangesFollow}
use Rattle.code_objects.specs.CodeObjects.{CodeParts, LieAt, optimised_name, plain_name, start_at}
use Rattle.code_objects.specs.declared.name.CodeName.{CodeName}
use Rattle.guest_stack.proofs.Positions.{first_in_code}
use Rattle.guest_stack.proofs.Stepping.{begins}
use Rattle.guest_machine.proofs.Said.{plain_alone}
use Rattle.guest_machine.specs.Machine.{IsMachine, Reflects, flag_at, program_of}
use Rattle.guest_machine.specs.Rules.{has_code}
use Rattle.plain_machine.specs.PlainFrames.{reason_in}
use Rattle.plain_machine.specs.PlainMachine.{Code, code_at, main_from, main_of, plain_code, start, zeros}
use Rattle.guest_stack.specs.Stack.{EachHasRegisters, Physical, Stands, begun, frame_at}
use Rattle.guest_stack.specs.Laws.{IsPlaced}
use Rattle.guest_machine.specs.declared.machine.Machine.{Machine}

-- the function with this number is not the one before, whose label differs from all of these
labels_differ : (label : List ℕ) (funcs : List Func) (number : ℕ) → AllByRecursion (λ other. label ≢ other) (map (λ func. func.label) funcs) → IsMain funcs number → label ≡ codes "main" → ⊥
labels_differ label [] number differ main is = absurd (cc main)
labels_differ label (func ∷ funcs) zero differ main is = differ.0 (is ∙ sym main)
labels_differ label (func ∷ funcs) (suc number) differ main is = labels_differ label funcs number differ.1 main is

main_found : (from : ℕ) (funcs : List Func) (number : ℕ) → AllDiffer (map (λ func. func.label) funcs) → IsMain funcs number → main_from from funcs ≡ from + number
main_found from [] number differ main = absurd (cc main)
main_found from (func ∷ funcs) zero differ main =
    let here : bytes_eq func.label (codes "main") ≡ true = (bytes_eq-Decides func.label (codes "main")).1 main in
    let none : from ≡ from + 0 = omega arith in
    cond-true (bytes_eq func.label (codes "main")) from (main_from (suc from) funcs) here ∙ none
main_found from (func ∷ funcs) (suc number) differ main =
    let not_here : bytes_eq func.label (codes "main") ≡ false =
    false_from_ne_true (bytes_eq func.label (codes "main")) (λ is. labels_differ func.label funcs number differ.0 main ((bytes_eq-Decides func.label (codes "main")).0 is)) in
    let more : suc from + number ≡ from + suc number = omega arith in
    cond-false (bytes_eq func.label (codes "main")) from (main_from (suc from) funcs) not_here ∙ main_found (suc from) funcs number differ.1 main ∙ more

-- the function labelled `main` is the one at which the plain machine begins
pub main_is : (funcs : List Func) (number : ℕ) → IsProgram funcs → IsMain funcs number → main_of funcs ≡ number
main_is funcs number program main = let found = main_found 0 funcs number program.labels main in omega (arith, found)

-- at the beginning there is no reason
no_reason_in : (funcs all : List Func) (entry : Entry) → reason_in all (map plain_code funcs) entry ≡ None
no_reason_in funcs [] entry = refl
no_reason_in [] (func ∷ all) entry = refl
no_reason_in (f ∷ funcs) (func ∷ all) entry = by_test (same_entry (entry_of func) entry) (no_reason_in funcs all entry)
  where
    by_test : (b : Bool) {o : Option (List ℕ)} → o ≡ None → cond b None o ≡ None
    by_test true none = refl
    by_test false none = none

some_from : (o : Option ℕ) → IsSome o → (n : ℕ) × (o ≡ Some n)
some_from None some = absurd (cc some)
some_from (Some n) some = (n, refl)

-- where code lies nowhere, there is none
pub none_nowhere : (parts : CodeParts) (name : CodeName) → LieAt parts [] → HasCode parts name → ⊥
none_nowhere parts name nowhere has =
    let start = some_from (start_at parts.starts name) has in
    let found = nowhere.there name start.0 start.1 in absurd (cc found)

none_there : (parts : CodeParts) (name : CodeName) → LieAt parts [] → has_code parts name ≡ false
none_there parts name nowhere = false_from_ne_true (has_code parts name) (none_nowhere parts name nowhere)

-- no flag is set
no_flag : (count func : ℕ) → flag_at (replicate count false) func ≡ false
no_flag zero func = refl
no_flag (suc count) zero = refl
no_flag (suc count) (suc func) = no_flag count func

-- nothing is said of any function
begins_plain : (funcs : List Func) (func : ℕ) → code_at (start funcs) func ≡ record { optimised = false; disabled = false; reason = None }
begins_plain funcs func = nothing funcs func
  where
    nothing : (funcs : List Func) (func : ℕ) → option_map_or (λ (code : Code). code) (slice_get (map plain_code funcs) func) (record { optimised = false; disabled = false; reason = None }) ≡ record { optimised = false; disabled = false; reason = None }
    nothing [] func = refl
    nothing (f ∷ funcs) zero = refl
    nothing (f ∷ funcs) (suc func) = nothing funcs func

-- The machine at the first slot of the code of `main`.
module _ (machine : Machine) (main : FuncId) (program : IsProgram (program_of machine)) (main_there : IsMain (program_of machine) main.0) (within : main.0 < length (program_of machine))
    (has : HasCode machine.code (plain_name main)) (stack_is : machine.stack ≡ begun (plain_name main)) (flags_are : machine.disabled ≡ replicate (length (program_of machine)) false) where
  pub begun_whole : IsMachine machine
  begun_whole =
      let first = first_in_code (program_of machine) (plain_name main) program within in
      let law = begins (program_of machine) (plain_name main) program within in
      record {
        program = program;
        placed = subst (λ (it : Physical). AllByRecursion (IsPlaced (program_of machine) (start_at machine.code.starts)) (it.frame ∷ it.callers)) (sym stack_is)
            (record { code = first; start = some_from (start_at machine.code.starts (plain_name main)) has }, tt);
        registers = subst (EachHasRegisters (program_of machine)) (sym stack_is) law.1;
        few = subst (λ (it : Physical). length it.saved ≤ 254) (sym stack_is) (omega arith);
        flags = ap length flags_are ∙ length-replicate (length (program_of machine)) false;
      }

  pub begun_reflects : (before : CodeParts) (event : CodeEvent) → machine.state ≡ Js → machine.rest ≡ 0 → machine.ended ≡ None → machine.steps ≡ 0 → LieAt before [] → OthersStay before machine.code (plain_name main) → IsCreation before machine.code (plain_name main) event
      → RangesFollow before machine.code (event ∷ []) → Reflects machine 0 (event ∷ [])
  begun_reflects before event engine rest ended steps nowhere others creation follow =
      let law = begins (program_of machine) (plain_name main) program within in
      let number : main_of (program_of machine) ≡ main.0 = main_is (program_of machine) main.0 program main_there in
      record {
        state = record {
          stack = subst (λ n. Stands (program_of machine) machine.stack (frame_at (n, 0) zeros ∷ [])) (sym number)
              (subst (λ it. Stands (program_of machine) it (frame_at (main.0, 0) zeros ∷ [])) (sym stack_is) law.0);
          codes = record {
            count = length-map (program_of machine) plain_code;
            optimised = λ func. plain_alone before machine.code main others func ∙ none_there before (optimised_name func) nowhere ∙ sym (ap (λ (c : Code). c.optimised) (begins_plain (program_of machine) func.0));
            disabled = λ func. ap (λ flags. flag_at flags func.0) flags_are ∙ no_flag (length (program_of machine)) func.0 ∙ sym (ap (λ (c : Code). c.disabled) (begins_plain (program_of machine) func.0));
          };
          engine = engine;
          rest = rest;
          ended = ended;
        };
        code = follow [] nowhere;
        reasons = λ entry. ap (λ e. reasons (e ∷ []) entry) creation.event_is ∙ sym (no_reason_in (program_of machine) (program_of machine) entry);
        counted = steps;
      }
