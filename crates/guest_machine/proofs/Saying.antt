-- That what an operation says of a function's code is what the plain machine says of it.
use Rattle.std.proofs.Common.{◌≡◌, ℕ, zero, suc, ◌<◌, List, [], ◌∷◌, length, refl, ap, ◌∙◌, sym, subst, arith}
use Rattle.std.proofs.lemmas.Bool.{eqb-true, eqb-false}
use Rattle.std.specs.Prelude.{Bool, true, false, cond, ◌==◌, Option, Some, None, slice_set}
use Rattle.std.specs.List.{slice_get}
use Rattle.std.specs.Option.{option_map_or}
use Rattle.prof_base.specs.declared.ids.FuncId.{FuncId}
use Rattle.guest_program.specs.Program.{IsProgram}
use Rattle.guest_program.specs.declared.instr.Func.{Func}
use Rattle.code_event.specs.CodeMap.{same_entry}
use Rattle.code_event.specs.DeoptReasons.{DeoptReasons, reasons_after}
use Rattle.code_event.specs.declared.code_map.Range.{Range}
use Rattle.code_event.specs.declared.entry.Entry.{Entry}
use Rattle.code_event.specs.declared.event.CodeEvent.{CodeEvent}
use Rattle.code_layout.specs.Layouts.{entry_at, entry_of}
use Rattle.code_objects.specs.CodeObjects.{LieAt, optimised_name}
use Rattle.guest_machine.proofs.Advancing.{went_on, went_off}
use Rattle.guest_machine.specs.Machine.{Advances, AreSaid, GivesReasons, HasRisen, HasRunOff, IsInState, flag_at, program_of}
use Rattle.guest_machine.specs.Raises.{reason_of}
use Rattle.guest_machine.specs.Rules.{has_code}
use Rattle.guest_stack.proofs.StackActs.{rises_below, rises_past}
use Rattle.guest_stack.specs.Stack.{Stands}
use Rattle.plain_machine.proofs.Reasons.{reasons_follow}
use Rattle.plain_machine.specs.PlainFrames.{reason_in}
use Rattle.plain_machine.specs.PlainMachine.{Code, Frame, State, code_at, says}
use Rattle.guest_machine.specs.declared.machine.Machine.{Machine}

-- An element that was set is read where it was set, and each other one is as it was.
pub get_set_same : {X : Type 0} (xs : List X) (i : ℕ) (x : X) → i < length xs → slice_get (slice_set xs i x) i ≡ Some x
get_set_same [] i x there = absurd (omega (arith, there))
get_set_same (y ∷ ys) zero x there = refl
get_set_same (y ∷ ys) (suc i) x there = get_set_same ys i x (omega (arith, there))

pub get_set_other : {X : Type 0} (xs : List X) (i j : ℕ) (x : X) → (j ≡ i → ⊥) → slice_get (slice_set xs i x) j ≡ slice_get xs j
get_set_other [] i j x apart = refl
get_set_other (y ∷ ys) zero zero x apart = absurd (apart refl)
get_set_other (y ∷ ys) zero (suc j) x apart = refl
get_set_other (y ∷ ys) (suc i) zero x apart = refl
get_set_other (y ∷ ys) (suc i) (suc j) x apart = get_set_other ys i j x (λ same. apart (ap suc same))

-- The machine says of this function's code what this makes of what it said, and of all other code what it said.
pub record SaysSo (old new : Machine) (func : FuncId) (change : Code → Code) : Type 0 where
  pub optimised : (code : Code) → has_code old.code (optimised_name func) ≡ code.optimised → flag_at old.disabled func.0 ≡ code.disabled → has_code new.code (optimised_name func) ≡ (change code).optimised
  pub disabled : (code : Code) → has_code old.code (optimised_name func) ≡ code.optimised → flag_at old.disabled func.0 ≡ code.disabled → flag_at new.disabled func.0 ≡ (change code).disabled
  pub other_code : (other : FuncId) → (other.0 ≡ func.0 → ⊥) → has_code new.code (optimised_name other) ≡ has_code old.code (optimised_name other)
  pub other_flags : (other : FuncId) → (other.0 ≡ func.0 → ⊥) → flag_at new.disabled other.0 ≡ flag_at old.disabled other.0

-- the code of what may be none
abbrev pub some_code : Option Code → Code
some_code code = option_map_or (λ code. code) code (record { optimised = false; disabled = false; reason = None })

-- numbers of functions are the same where their names are
same_func : (one other : FuncId) → one.0 ≡ other.0 → one ≡ other
same_func one other same = λ i. record { 0 = same i }

-- What the plain machine says of code then.
module _ (old new : Machine) (func : FuncId) (change : Code → Code) (state after : State) (known : func.0 < length (program_of old)) (program : program_of new ≡ program_of old) (says_so : SaysSo old new func change)
    (code_is : after.code ≡ slice_set state.code func.0 (change (code_at state func.0))) (said : AreSaid old state) where
  own_code : code_at after func.0 ≡ change (code_at state func.0)
  own_code =
      ap (λ codes. some_code (slice_get codes func.0)) code_is
      ∙ ap some_code (get_set_same state.code func.0 (change (code_at state func.0)) (subst (λ n. func.0 < n) (sym said.count) known))

  other_code : (other : FuncId) → (other.0 ≡ func.0 → ⊥) → code_at after other.0 ≡ code_at state other.0
  other_code other apart =
      ap (λ codes. some_code (slice_get codes other.0)) code_is
      ∙ ap some_code (get_set_other state.code func.0 other.0 (change (code_at state func.0)) apart)

  optimised_case : (other : FuncId) (b : Bool) → (other.0 == func.0) ≡ b → has_code new.code (optimised_name other) ≡ (code_at after other.0).optimised
  optimised_case other true is =
      subst (λ f. has_code new.code (optimised_name f) ≡ (code_at after f.0).optimised) (sym (same_func other func (eqb-true other.0 func.0 is)))
      (says_so.optimised (code_at state func.0) (said.optimised func) (said.disabled func) ∙ sym (ap (λ (c : Code). c.optimised) own_code))
  optimised_case other false is =
      let apart = eqb-false other.0 func.0 is in
      says_so.other_code other apart ∙ said.optimised other ∙ sym (ap (λ (c : Code). c.optimised) (other_code other apart))

  disabled_case : (other : FuncId) (b : Bool) → (other.0 == func.0) ≡ b → flag_at new.disabled other.0 ≡ (code_at after other.0).disabled
  disabled_case other true is =
      subst (λ f. flag_at new.disabled f.0 ≡ (code_at after f.0).disabled) (sym (same_func other func (eqb-true other.0 func.0 is)))
      (says_so.disabled (code_at state func.0) (said.optimised func) (said.disabled func) ∙ sym (ap (λ (c : Code). c.disabled) own_code))
  disabled_case other false is =
      let apart = eqb-false other.0 func.0 is in
      says_so.other_flags other apart ∙ said.disabled other ∙ sym (ap (λ (c : Code). c.disabled) (other_code other apart))

  pub said_so : AreSaid new after
  said_so = record {
    count = ap (λ (codes : List Code). length codes) code_is ∙ same_length state.code func.0 (change (code_at state func.0)) ∙ said.count ∙ sym (ap length program);
    optimised = λ other. optimised_case other (other.0 == func.0) refl;
    disabled = λ other. disabled_case other (other.0 == func.0) refl;
  }
    where
      same_length : (codes : List Code) (i : ℕ) (code : Code) → length (slice_set codes i code) ≡ length codes
      same_length [] i code = refl
      same_length (first ∷ codes) zero code = refl
      same_length (first ∷ codes) (suc i) code = ap suc (same_length codes i code)

-- the plain machine's state in which a function's code is this
abbrev pub with_code : ℕ → (Code → Code) → State → State
with_code func change state = record state { code = slice_set state.code func (change (code_at state func)) }

-- What an operation says of a function's code, where it has gone on and where it ran off the body.
module _ (old new : Machine) (func : FuncId) (change : Code → Code) where
  pub says_on : (mid : Machine) → HasRisen old mid → func.0 < length (program_of old) → program_of mid ≡ program_of old → program_of new ≡ program_of mid → SaysSo mid new func change
      → ((stack : List Frame) → Stands (program_of mid) mid.stack stack → Stands (program_of new) new.stack stack)
      → new.state ≡ mid.state → new.rest ≡ mid.rest → new.ended ≡ mid.ended
      → Advances old new (λ state frame callers. says (program_of old) state frame callers func.0 (change (code_at state func.0)))
  says_on mid has known same program says_so stands engine rest ended =
      went_on old new (λ state frame. with_code func.0 change state) (λ frame. frame) (λ f. refl) (λ f. refl) mid has
      (λ state frame callers is stack_is mid_is.
      let risen : State = record state { stack = record frame { index = suc frame.index } ∷ callers } in
      record {
        stack = stands risen.stack mid_is.stack;
        codes =
            said_so mid new func change risen (record (with_code func.0 change state) { stack = risen.stack }) (subst (λ funcs. func.0 < length funcs) (sym same) known) program says_so refl mid_is.codes;
        engine = engine ∙ mid_is.engine;
        rest = rest ∙ mid_is.rest;
        ended = ended ∙ mid_is.ended;
      })

  pub says_off : HasRunOff old new → Advances old new (λ state frame callers. says (program_of old) state frame callers func.0 (change (code_at state func.0)))
  says_off has = went_off old new (λ state frame. with_code func.0 change state) (λ frame. frame) (λ f. refl) (λ f. refl) has

-- the reasons are as they were where the code of a function gets the reason that it had
same_reason : (funcs : List Func) (codes : List Code) (func : ℕ) (code : Code) (entry : Entry) → func < length codes → code.reason ≡ (some_code (slice_get codes func)).reason
    → reason_in funcs (slice_set codes func code) entry ≡ reason_in funcs codes entry
same_reason [] codes func code entry there same = refl
same_reason (f ∷ funcs) [] func code entry there same = absurd (omega (arith, there))
same_reason (f ∷ funcs) (first ∷ codes) zero code entry there same = ap (λ reason. cond (same_entry (entry_of f) entry) reason (reason_in funcs codes entry)) same
same_reason (f ∷ funcs) (first ∷ codes) (suc func) code entry there same =
    ap (λ rest. cond (same_entry (entry_of f) entry) first.reason rest) (same_reason funcs codes func code entry (omega (arith, there)) same)

-- The reasons after what an operation says of a function's code.
module _ (old : Machine) (events : List CodeEvent) (func : FuncId) (change : Code → Code) where
  abbrev pub GivesSaid : Type 0
  GivesSaid = GivesReasons old events (λ state frame callers. says (program_of old) state frame callers func.0 (change (code_at state func.0)))

  -- the function gets a reason
  pub gives_reason : (mid : Machine) (reason : List ℕ) → IsProgram (program_of old) → HasRisen old mid → func.0 < length (program_of old)
      → ((state : State) → IsInState old state → (change (code_at state func.0)).reason ≡ Some reason)
      → ((at : List Range) (why : DeoptReasons) → LieAt old.code at → reasons_after at why events ≡ reason_of (program_of old) func reason why)
      → GivesSaid
  gives_reason mid reason program has known reason_is raised state frame callers at why is stack_is lie are entry =
      let funcs = program_of old in
      ap (λ (w : DeoptReasons). w entry) (raised at why lie)
      ∙ ap (λ o. cond (same_entry entry (entry_at funcs func.0)) (Some reason) o) (are entry)
      ∙ sym (reasons_follow funcs state.code func.0 (change (code_at state func.0)) reason entry program is.codes.count known (reason_is state is))
      ∙ sym (ap (λ (s : State). reason_in funcs s.code entry) (rises_below funcs state (with_code func.0 change state) frame callers (has state frame callers is stack_is).0))

  -- its reason stays as it was
  pub gives_none : (mid : Machine) → HasRisen old mid → func.0 < length (program_of old)
      → ((state : State) → IsInState old state → (change (code_at state func.0)).reason ≡ (code_at state func.0).reason)
      → ((at : List Range) (why : DeoptReasons) → LieAt old.code at → reasons_after at why events ≡ why)
      → GivesSaid
  gives_none mid has known reason_is raised state frame callers at why is stack_is lie are entry =
      let funcs = program_of old in
      ap (λ (w : DeoptReasons). w entry) (raised at why lie)
      ∙ are entry
      ∙ sym (same_reason funcs state.code func.0 (change (code_at state func.0)) entry (subst (λ n. func.0 < n) (sym is.codes.count) known) (reason_is state is))
      ∙ sym (ap (λ (s : State). reason_in funcs s.code entry) (rises_below funcs state (with_code func.0 change state) frame callers (has state frame callers is stack_is).0))

  -- the program has ended
  pub gives_none_off : (new : Machine) → HasRunOff old new → events ≡ [] → GivesSaid
  gives_none_off new has none state frame callers at why is stack_is lie are entry =
      ap (λ es. reasons_after at why es entry) none
      ∙ are entry
      ∙ sym (ap (λ (s : State). reason_in (program_of old) s.code entry) (rises_past (program_of old) state (with_code func.0 change state) frame callers (has state frame callers is stack_is).0))
