-- That acts which free or move code leave the rest of the machine as it is.
use Rattle.std.proofs.Common.{◌≡◌, ℕ, List, [], ◌∷◌, length, map, refl, ap, ◌∙◌, sym, subst}
use Rattle.std.specs.Prelude.{Bool, false, reverse, Option, Some, None, is_some}
use Rattle.std.specs.List.{AllByRecursion, list_any}
use Rattle.std.proofs.lemmas.List.{reverse-append}
use Rattle.std.proofs.lemmas.Bool.{or_parts}
use Rattle.code_event.proofs.EachElement.{all_pushed}
use Rattle.guest_program.specs.Program.{IsProgram}
use Rattle.code_event.specs.CodeMap.{after_event}
use Rattle.code_event.specs.declared.event.CodeEvent.{CodeEvent}
use Rattle.code_event.specs.declared.event.CodeEvent.TheVariants.{Delete}
use Rattle.code_space.specs.declared.range.CodeMove.{CodeMove}
use Rattle.code_objects.specs.Changes.{RangesFollow, OthersStay, move_event, same_name}
use Rattle.code_objects.specs.CodeObjects.{CodeParts, LieAt, start_at}
use Rattle.code_objects.specs.declared.name.CodeName.{CodeName}
use Rattle.guest_machine.proofs.Said.{SameOptimised, said_still}
use Rattle.guest_machine.specs.Machine.{Acts, Advances, GiveNoReason, IsInState, IsMachine}
use Rattle.plain_machine.specs.PlainMachine.{Frame, State}
use Rattle.guest_stack.specs.Stack.{Stands, EachHasRegisters}
use Rattle.guest_stack.specs.Laws.{IsInCode, IsPlaced}
use Rattle.guest_machine.specs.declared.machine.Machine.{Machine}
use Rattle.guest_stack.specs.declared.stack.CodeFrame.{CodeFrame}

-- an act that leaves the code as it is raises no event
pub quiet_acts : (old new : Machine) (change : State → Frame → List Frame → State) → IsMachine new → new.code ≡ old.code → Advances old new change → Acts old new [] change
quiet_acts old new change whole same does =
    record { whole = whole; program = ap (λ c. c.funcs) same; does = does; code = λ ranges lie. subst (λ c. LieAt c ranges) (sym same) lie; no_reason = λ ranges why. refl }

-- moves give no reason
pub moves_give_no_reason : (moves : List CodeMove) → GiveNoReason (map move_event moves)
moves_give_no_reason [] ranges why = refl
moves_give_no_reason (move ∷ moves) ranges why = moves_give_no_reason moves (after_event ranges (move_event move)) why

-- Other code of the same program.
module _ (mid : Machine) (code : CodeParts) (funcs_is : code.funcs ≡ mid.code.funcs) (optimised_are : SameOptimised mid.code code) where
  pub state_kept : (state : State) → IsInState mid state → IsInState (record mid { code = code }) state
  state_kept state is = record { stack = subst (λ f. Stands f mid.stack state.stack) (sym funcs_is) is.stack; codes = said_still mid (record mid { code = code }) state state funcs_is optimised_are refl refl is.codes; engine = is.engine; rest = is.rest; ended = is.ended }

  pub advance_kept : (old : Machine) (change : State → Frame → List Frame → State) → Advances old mid change → Advances old (record mid { code = code }) change
  advance_kept old change does state frame callers is stack_is = state_kept (change state frame callers) (does state frame callers is stack_is)

  all_kept : (P : CodeFrame → Type 0) → ((frame : CodeFrame) (start : ℕ) → P frame → start_at mid.code.starts frame.code ≡ Some start → (other : ℕ) × (start_at code.starts frame.code ≡ Some other))
      → (frames : List CodeFrame) → AllByRecursion P frames → AllByRecursion (IsPlaced mid.code.funcs (start_at mid.code.starts)) frames → AllByRecursion (IsPlaced code.funcs (start_at code.starts)) frames
  all_kept P keeps [] used placed = tt
  all_kept P keeps (frame ∷ frames) used placed =
      (record { code = subst (λ f. IsInCode f frame) (sym funcs_is) placed.0.code; start = keeps frame placed.0.start.0 used.0 placed.0.start.1 }, all_kept P keeps frames used.1 placed.1)

  pub whole_kept : IsMachine mid → (P : CodeFrame → Type 0) → AllByRecursion P (mid.stack.frame ∷ mid.stack.callers)
      → ((frame : CodeFrame) (start : ℕ) → P frame → start_at mid.code.starts frame.code ≡ Some start → (other : ℕ) × (start_at code.starts frame.code ≡ Some other))
      → IsMachine (record mid { code = code })
  whole_kept machine P used keeps =
      record {
        program = subst IsProgram (sym funcs_is) machine.program;
        placed = all_kept P keeps (mid.stack.frame ∷ mid.stack.callers) used machine.placed;
        registers = subst (λ f. EachHasRegisters f mid.stack) (sym funcs_is) machine.registers;
        few = machine.few;
        flags = machine.flags ∙ sym (ap length funcs_is);
      }

  some_start : (o p : Option ℕ) → is_some p ≡ is_some o → (start : ℕ) → o ≡ Some start → (other : ℕ) × (p ≡ Some other)
  some_start None p same start is = absurd (cc is)
  some_start (Some x) None same start is = absurd (cc same)
  some_start (Some x) (Some y) same start is = (y, refl)

  all_any : (frames : List CodeFrame) → AllByRecursion (λ frame. Unit {0}) frames
  all_any [] = tt
  all_any (frame ∷ frames) = (tt, all_any frames)

  -- all code is where it was, or elsewhere
  pub compacted_acts : (old : Machine) (events : List CodeEvent) (change : State → Frame → List Frame → State) → IsMachine mid → mid.code ≡ old.code → Advances old mid change
      → ((name : CodeName) → is_some (start_at code.starts name) ≡ is_some (start_at mid.code.starts name)) → (moves : List CodeMove) → events ≡ map move_event moves → RangesFollow mid.code code events
      → Acts old (record mid { code = code }) events change
  compacted_acts old events change machine same does there moves events_are follow =
      record {
        whole = whole_kept machine (λ frame. Unit {0}) (all_any (mid.stack.frame ∷ mid.stack.callers)) (λ frame start used is. some_start (start_at mid.code.starts frame.code) (start_at code.starts frame.code) (there frame.code) start is);
        program = funcs_is ∙ ap (λ c. c.funcs) same;
        does = advance_kept old change does;
        code = subst (λ c. RangesFollow c code events) same follow;
        no_reason = subst GiveNoReason (sym events_are) (moves_give_no_reason moves);
      }

  -- code is gone that no frame is in
  pub freed_acts : (old : Machine) (events : List CodeEvent) (change : State → Frame → List Frame → State) (name : CodeName) (start : ℕ) → IsMachine mid → mid.code ≡ old.code → Advances old mid change
      → OthersStay mid.code code name → AllByRecursion (λ frame. same_name name frame.code ≡ false) (mid.stack.frame ∷ mid.stack.callers) → events ≡ Delete start ∷ [] → RangesFollow mid.code code events
      → Acts old (record mid { code = code }) events change
  freed_acts old events change name start machine same does others unused events_are follow =
      record {
        whole = whole_kept machine (λ frame. same_name name frame.code ≡ false) unused (λ frame at used is. (at, others frame.code used ∙ is));
        program = funcs_is ∙ ap (λ c. c.funcs) same;
        does = advance_kept old change does;
        code = subst (λ c. RangesFollow c code events) same follow;
        no_reason = subst GiveNoReason (sym events_are) (λ ranges why. refl);
      }

-- where none of a list passes a test, each fails it
pub none_passes : {X : Type 0} (p : X → Bool) (xs : List X) → list_any p xs ≡ false → AllByRecursion (λ x. p x ≡ false) xs
none_passes p [] none = tt
none_passes p (x ∷ xs) none = let parts = or_parts (p x) (list_any p xs) none in (parts.0, none_passes p xs parts.1)

pub all_reversed : {X : Type 0} (P : X → Type 0) (xs : List X) → AllByRecursion P xs → AllByRecursion P (reverse xs)
all_reversed P [] all = tt
all_reversed P (x ∷ xs) all = subst (AllByRecursion P) (sym (reverse-append (x ∷ []) xs)) (all_pushed P (reverse xs) x (all_reversed P xs all.1) all.0)
