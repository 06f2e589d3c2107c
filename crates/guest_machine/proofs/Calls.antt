-- That a call of the machine is one of the plain machine, and that the machine stays whole.
use Rattle.std.proofs.Common.{◌≡◌, ℕ, suc, ◌<◌, ◌≤◌, List, [], ◌∷◌, length, get_or, ◌⊎◌, inl, inr, refl, ap, ap₂, ◌∙◌, sym, subst, arith}
use Rattle.std.proofs.lemmas.Bool.{cond-true, cond-false, lt-ltb, le-ltb}
use Rattle.std.proofs.lemmas.Option.{slice_get-get_or, slice_get_read, slice_get_within}
use Rattle.std.specs.Prelude.{Bool, true, false, Option, Some, None, nat_lt, is_some, option_to_list, IsSome}
use Rattle.std.specs.Option.{option_map_or, option_and_then}
use Rattle.std.specs.List.{slice_get}
use Rattle.prof_base.specs.declared.ids.FuncId.{FuncId}
use Rattle.guest_program.specs.InlinedSize.{body_of, called, is_inline}
use Rattle.guest_program.specs.Program.{IsProgram}
use Rattle.guest_program.specs.declared.instr.Op.TheVariants as op
use Rattle.code_event.specs.Layout.{site_of, sites_above}
use Rattle.code_event.specs.declared.event.CodeEvent.{CodeEvent}
use Rattle.code_event.specs.declared.layout.Site.{Site}
use Rattle.code_event.specs.declared.layout.Slot.{Slot}
use Rattle.code_event.specs.declared.layout.Unit.{Unit as CodeUnit}
use Rattle.code_event.proofs.EachElement.{all_mapped}
use Rattle.code_layout.specs.Laws.{func_at, slot_of, site_at, BeginsAt, IsCodeOf}
use Rattle.code_layout.specs.Layouts.{unit_of}
use Rattle.code_layout.proofs.Expanding.{body_some, get_there}
use Rattle.code_layout.proofs.Standing.{found_is_right}
use Rattle.code_objects.specs.Changes.{HasCode, MakesSure, OthersStay, RangesFollow, same_name}
use Rattle.code_objects.specs.CodeObjects.{CodeParts, depth_of, layout_of, start_at}
use Rattle.code_objects.specs.declared.name.CodeName.{CodeName}
use Rattle.code_objects.proofs.Keeping.{same_name_true}
use Rattle.guest_machine.proofs.Advancing.{stands_for, ended_so, whole_ended}
use Rattle.guest_machine.proofs.Said.{SameOptimised, said_still}
use Rattle.guest_machine.proofs.Instructions.{next_is}
use Rattle.guest_stack.proofs.Positions.{layout_is_code, slot_is, slot_there, off_end, inlined_units_are_called, first_in_code, unit_with_site}
use Rattle.guest_stack.proofs.StackActs.{still_in, top_registers}
use Rattle.guest_stack.proofs.Stepping.{calls_code, calls_within, calling_code_keeps_registers, calling_within_keeps_registers, callers_are_counted}
use Rattle.guest_machine.specs.Machine.{Acts, Advances, GiveNoReason, IsChild, IsInState, IsMachine, next_op, program_of, youngest_layout}
use Rattle.plain_machine.specs.PlainMachine.{Frame, State, calls, ends}
use Rattle.guest_stack.specs.Stack.{Stands, EachHasRegisters, first_frame, frame_at, called_code, called_within}
use Rattle.guest_stack.specs.Laws.{IsInCode, IsAtSlot, IsPlaced}
use Rattle.guest_stack.specs.declared.stack.CodeFrame.{CodeFrame}
use Rattle.plain_machine.specs.declared.ended.Ended.TheVariants as end
use Rattle.guest_machine.specs.declared.machine.Machine.{Machine}

-- what there is of an option
some_there : {X : Type 0} (o : Option X) → IsSome o → (x : X) × (o ≡ Some x)
some_there None is = absurd (cc is)
some_there (Some x) is = (x, refl)

-- Where code is made sure of, all other code is there still.
pub code_stays : (old new : CodeParts) (name : CodeName) → HasCode new name → OthersStay old new name → (other : CodeName) → HasCode old other → HasCode new other
code_stays old new name there stay other had = by_case (same_name name other) refl
  where
    by_case : (b : Bool) → same_name name other ≡ b → HasCode new other
    by_case true is = subst (HasCode new) (same_name_true name other is) there
    by_case false is = subst IsSome (sym (stay other is)) had

-- the event that makes sure of code gives no reason
pub no_reason_given : (old new : CodeParts) (name : CodeName) (event : Option CodeEvent) → MakesSure old new name event → GiveNoReason (option_to_list event)
no_reason_given old new name None sure = λ ranges why. refl
no_reason_given old new name (Some event) sure = subst (λ e. GiveNoReason (e ∷ [])) (sym sure.event_is) (λ ranges why. refl)

-- A call, where there is room and where there is none.
module _ (old : Machine) (whole : IsMachine old) (func : ℕ) where
  -- as many callers as lists of registers
  counted : (state : State) (frame : Frame) (callers : List Frame) → IsInState old state → state.stack ≡ frame ∷ callers → length callers ≡ length old.stack.saved
  counted state frame callers is stack_is = callers_are_counted (program_of old) old.stack frame callers whole.registers (stands_for old state frame callers is stack_is)

  -- the new frame stands for the function that is called
  pub entered : (new : Machine) → length old.stack.saved < 254 → new.state ≡ old.state → new.rest ≡ old.rest → new.ended ≡ old.ended
      → program_of new ≡ program_of old → SameOptimised old.code new.code → new.disabled ≡ old.disabled
      → ((frame : Frame) (callers : List Frame) → Stands (program_of old) old.stack (frame ∷ callers) → Stands (program_of new) new.stack (frame_at (func, 0) old.stack.registers ∷ frame ∷ callers))
      → Advances old new (λ state frame callers. calls state frame callers func)
  entered new room engine rest ended program optimised disabled stands_so state frame callers is stack_is =
      let size = counted state frame callers is stack_is in
      let stands = stands_for old state frame callers is stack_is in
      let own : frame.registers ≡ old.stack.registers = top_registers (program_of old) old.stack frame callers stands in
      let after : State = record state { stack = frame_at (func, 0) frame.registers ∷ frame ∷ callers } in
      let gives : calls state frame callers func ≡ after = cond-true (nat_lt (length callers) 254) after (ends end.Overflow state) (lt-ltb (length callers) 254 (omega (arith, size, room))) in
      subst (IsInState new) (sym gives) (record {
        stack = subst (λ rs. Stands (program_of new) new.stack (frame_at (func, 0) rs ∷ frame ∷ callers)) (sym own) (stands_so frame callers stands);
        codes = said_still old new state (record state { stack = frame_at (func, 0) frame.registers ∷ frame ∷ callers }) program optimised disabled refl is.codes;
        engine = engine ∙ is.engine;
        rest = rest ∙ is.rest;
        ended = ended ∙ is.ended;
      })

  overflowed : (new : Machine) → 254 ≤ length old.stack.saved → new ≡ record old { ended = Some end.Overflow } → Advances old new (λ state frame callers. calls state frame callers func)
  overflowed new full new_is state frame callers is stack_is =
      let size = counted state frame callers is stack_is in
      let after : State = record state { stack = frame_at (func, 0) frame.registers ∷ frame ∷ callers } in
      let gives : calls state frame callers func ≡ ends end.Overflow state = cond-false (nat_lt (length callers) 254) after (ends end.Overflow state) (le-ltb (length callers) 254 (omega (arith, size, full))) in
      subst (IsInState new) (sym gives) (ended_so old new end.Overflow state is new_is)

  pub overflows : (events : List CodeEvent) → 254 ≤ length old.stack.saved → events ≡ [] → Acts old (record old { ended = Some end.Overflow }) events (λ state frame callers. calls state frame callers func)
  overflows events full none =
      let new : Machine = record old { ended = Some end.Overflow } in
      subst (λ es. Acts old new es (λ state frame callers. calls state frame callers func)) (sym none) (record {
        whole = whole_ended old new end.Overflow whole refl;
        program = refl;
        does = overflowed new full refl;
        code = λ ranges lie. lie;
        no_reason = λ ranges why. refl;
      })

-- A call in a frame of its own. All code that was there is there still, and so is that of the function that is called.
module _ (old : Machine) (whole : IsMachine old) (code : CodeParts) (name : CodeName) (known : name.func.0 < length (program_of old)) (room : length old.stack.saved < 254)
    (funcs_are : code.funcs ≡ program_of old) (there : HasCode code name) (stays : (other : CodeName) → HasCode old.code other → HasCode code other)
    (optimised_are : SameOptimised old.code code) where
  abbrev called_machine : Machine
  called_machine = record old { code = code; stack = called_code (first_frame name) old.stack }

  first_placed : IsPlaced code.funcs (start_at code.starts) (first_frame name)
  first_placed = record {
    code = subst (λ fs. IsInCode fs (first_frame name)) (sym funcs_are) (first_in_code (program_of old) name whole.program known);
    start = some_there (start_at code.starts name) there;
  }

  still_placed : (frame : CodeFrame) → IsPlaced (program_of old) (start_at old.code.starts) frame → IsPlaced code.funcs (start_at code.starts) frame
  still_placed frame placed = record {
    code = subst (λ fs. IsInCode fs frame) (sym funcs_are) placed.code;
    start = some_there (start_at code.starts frame.code) (stays frame.code (ap is_some placed.start.1));
  }

  whole_called : IsMachine called_machine
  whole_called = record {
    program = subst IsProgram (sym funcs_are) whole.program;
    placed =
        (first_placed, all_mapped (IsPlaced (program_of old) (start_at old.code.starts)) (IsPlaced code.funcs (start_at code.starts)) (old.stack.frame ∷ old.stack.callers) still_placed whole.placed);
    registers = subst (λ fs. EachHasRegisters fs (called_code (first_frame name) old.stack)) (sym funcs_are) (calling_code_keeps_registers (program_of old) old.stack name whole.program known whole.registers);
    few = omega (arith, room);
    flags = whole.flags ∙ sym (ap length funcs_are);
  }

  pub calls_out : (events given : List CodeEvent) → events ≡ given → RangesFollow old.code code given → GiveNoReason given → (new : Machine) → new ≡ called_machine
      → Acts old new events (λ state frame callers. calls state frame callers name.func.0)
  calls_out events given events_are follow no_reason new new_is =
      subst (λ m. Acts old m events (λ state frame callers. calls state frame callers name.func.0)) (sym new_is)
      (subst (λ es. Acts old called_machine es (λ state frame callers. calls state frame callers name.func.0)) (sym events_are) (record {
        whole = whole_called;
        program = funcs_are;
        does =
            entered old whole name.func.0 called_machine room refl refl refl funcs_are optimised_are refl
            (λ frame callers stands.
            subst (λ fs. Stands fs (called_code (first_frame name) old.stack) (frame_at (name.func.0, 0) old.stack.registers ∷ frame ∷ callers)) (sym funcs_are)
            (calls_code (program_of old) old.stack (frame ∷ callers) name whole.program known stands));
        code = follow;
        no_reason = no_reason;
      }))

-- A call of the function of a unit that was inlined at the youngest frame's slot.
module _ (old : Machine) (whole : IsMachine old) (unit : ℕ) (child : IsChild old unit) (func : FuncId) (next : next_op old ≡ op.Call func) where
  code_here : IsCodeOf (program_of old) (depth_of old.stack.frame.code.kind) old.stack.frame.code.func.0 (youngest_layout old)
  code_here = layout_is_code (program_of old) old.stack.frame.code whole.program whole.placed.0.code.func

  own_slot : (slot : Slot) × IsAtSlot (program_of old) old.stack.frame slot
  own_slot = slot_there (program_of old) old.stack.frame whole.placed.0.code

  site_here : (site : Site) × (site_of (youngest_layout old).units unit ≡ Some site) × (site.unit ≡ own_slot.0.unit) × (site.index ≡ own_slot.0.index)
  site_here = child own_slot.0 own_slot.1

  -- the unit's function is the one that is called
  func_is : func_at (youngest_layout old).units unit ≡ func.0
  func_is =
      let call = (inlined_units_are_called (program_of old) (depth_of old.stack.frame.code.kind) old.stack.frame.code.func.0 (youngest_layout old) unit site_here.0 code_here site_here.1).1 in
      let here = ap₂ (λ u i. slice_get (body_of (program_of old) (func_at (youngest_layout old).units u)) i) (sym site_here.2) (sym site_here.3) ∙ call.1 in
      let both : Some (func_at (youngest_layout old).units unit) ≡ Some func.0 = sym call.2 ∙ ap called (next_is old whole own_slot.0 own_slot.1 call.0 here ∙ next) in cc both

  -- it has a first slot
  pub child_begins : func.0 < length (program_of old) → slot_of (youngest_layout old) unit 0 ≡ None → ⊥
  child_begins known none =
      let there = unit_with_site (youngest_layout old).units unit site_here.0 site_here.1 in
      let past = off_end (program_of old) (depth_of old.stack.frame.code.kind) old.stack.frame.code.func.0 (youngest_layout old) unit 0 code_here there none in
      let some = body_some (length (program_of old)) (program_of old) (func_at (youngest_layout old).units unit) whole.program.each (omega (arith, func_is, known)) in omega (arith, past, some)

  pub calls_inside : (events : List CodeEvent) (place : ℕ) → events ≡ [] → length old.stack.saved < 254 → slot_of (youngest_layout old) unit 0 ≡ Some place → (new : Machine)
      → new ≡ record old { stack = called_within place old.stack } → Acts old new events (λ state frame callers. calls state frame callers func.0)
  calls_inside events place none room found new new_is =
      let right = found_is_right (youngest_layout old) unit 0 place found in
      let called_machine : Machine = record old { stack = called_within place old.stack } in
      subst (λ m. Acts old m events (λ state frame callers. calls state frame callers func.0)) (sym new_is)
      (subst (λ es. Acts old called_machine es (λ state frame callers. calls state frame callers func.0)) (sym none) (record {
        whole = record {
          program = whole.program;
          placed = (
            record {
              code = still_in (program_of old) old.stack own_slot.0 whole.program whole.placed.0.code own_slot.1 unit 0 place found;
              start = whole.placed.0.start;
            },
            whole.placed.1,
          );
          registers =
              calling_within_keeps_registers (program_of old) old.stack own_slot.0 unit place site_here.0 whole.program whole.placed.0.code whole.registers own_slot.1 site_here.1 site_here.2 site_here.3 right;
          few = omega (arith, room);
          flags = whole.flags;
        };
        program = refl;
        does =
            entered old whole func.0 called_machine room refl refl refl refl (λ f. refl) refl
            (λ frame callers stands.
            subst (λ f. Stands (program_of old) (called_within place old.stack) (frame_at (f, 0) old.stack.registers ∷ frame ∷ callers)) func_is
            (calls_within (program_of old) old.stack (frame ∷ callers) own_slot.0 unit place site_here.0 whole.program whole.placed.0.code stands own_slot.1 site_here.1 site_here.2 site_here.3 right));
        code = λ ranges lie. lie;
        no_reason = λ ranges why. refl;
      }))

-- What was inlined at the youngest frame's slot begins at the next slot.
inlined_begins : (machine : Machine) → IsMachine machine → (slot : Slot) → IsAtSlot (program_of machine) machine.stack.frame slot → (unit : ℕ) → IsChild machine unit
    → BeginsAt (program_of machine) (youngest_layout machine) (func_at (youngest_layout machine).units unit) (site_at slot) (suc machine.stack.frame.slot)
inlined_begins machine whole slot at unit child =
    let funcs = program_of machine in
    let layout = youngest_layout machine in
    let name = machine.stack.frame.code in
    let code = layout_is_code funcs name whole.program whole.placed.0.code.func in
    let site = child slot at in
    let u = get_there layout.units unit (unit_with_site layout.units unit site.0 site.1) in
    let parent : u.0.parent ≡ Some site.0 = sym (ap (option_and_then (λ (v : CodeUnit). v.parent)) u.1) ∙ site.1 in
    let func_is : u.0.func.0 ≡ func_at layout.units unit = sym (ap (λ o. option_map_or (λ (v : CodeUnit). v.func.0) o 0) u.1) in
    elim ((code.units unit u.0 u.1).inlined) [
      | inl zero_is ↦ (let both : Some u.0 ≡ Some (unit_of funcs name.func.0 None) = sym u.1 ∙ ap (slice_get layout.units) zero_is ∙ code.first in
          let first : u.0 ≡ unit_of funcs name.func.0 None = cc both in
          let none : Some site.0 ≡ None = sym parent ∙ ap (λ (v : CodeUnit). v.parent) first in absurd (cc none))
      | inr some ↦ (let both : Some some.0 ≡ Some site.0 = sym some.1 ∙ parent in
          let same : some.0 ≡ site.0 = cc both in
          let same_unit : some.0.unit ≡ slot.unit = ap (λ (s : Site). s.unit) same ∙ site.2 in
          let same_index : some.0.index ≡ slot.index = ap (λ (s : Site). s.index) same ∙ site.3 in
          code.calls machine.stack.frame.slot slot at some.3.0 (func_at layout.units unit)
          (ap₂ (λ v i. slice_get (body_of funcs (func_at layout.units v)) i) (sym same_unit) (sym same_index) ∙ some.3.1)
          (some.3.3 ∙ ap Some func_is)
          (sym (ap (is_inline funcs) func_is) ∙ some.3.4)
          (subst (λ v. length (sites_above (depth_of name.kind) layout.units v) < depth_of name.kind) same_unit some.4))
    ]

-- A slot of the youngest frame's code, as it was read.
module _ (machine : Machine) (whole : IsMachine machine) (slots : List Slot) (place : ℕ) (next : Slot) (slots_are : slots ≡ (youngest_layout machine).slots) (less : place < length slots)
    (next_is : next ≡ get_or slots place next) where
  slot_read : slice_get (youngest_layout machine).slots place ≡ Some next
  slot_read = ap (λ ss. slice_get ss place) (sym slots_are) ∙ slice_get_read slots (length slots) place next refl less next_is

  -- where its unit was inlined, as it was read
  parent_read : (units : List CodeUnit) (number : ℕ) (u : CodeUnit) → units ≡ (youngest_layout machine).units → number ≡ next.unit
      → site_of (youngest_layout machine).units next.unit ≡ (get_or units number u).parent
  parent_read units number u units_are number_is =
      let there = (slot_is (program_of machine) machine.stack.frame.code place next whole.program whole.placed.0.code.func slot_read).0 in
      ap (option_and_then (λ (v : CodeUnit). v.parent)) (slice_get-get_or (youngest_layout machine).units next.unit u there)
      ∙ ap₂ (λ (us : List CodeUnit) n. (get_or us n u).parent) (sym units_are) (sym number_is)

  module _ (slot : Slot) (at : IsAtSlot (program_of machine) machine.stack.frame slot) (units : List CodeUnit) (number : ℕ) (u : CodeUnit) (units_are : units ≡ (youngest_layout machine).units)
      (number_is : number ≡ next.unit) where
    -- the unit was inlined at the youngest frame's slot, if that is its site
    pub child_read : (site : Site) → (get_or units number u).parent ≡ Some site → site.unit ≡ slot.unit → site.index ≡ slot.index → IsChild machine next.unit
    child_read site parent same_unit same_index other other_at =
        let both : Some slot ≡ Some other = sym at ∙ other_at in
        let same : slot ≡ other = cc both in
        (site, parent_read units number u units_are number_is ∙ parent, same_unit ∙ ap (λ (s : Slot). s.unit) same, same_index ∙ ap (λ (s : Slot). s.index) same)

    -- its site is that slot, if it is the next slot and a unit was inlined there
    pub child_follows : place ≡ suc machine.stack.frame.slot → (unit : ℕ) → IsChild machine unit → (get_or units number u).parent ≡ Some (site_at slot)
    child_follows place_is unit child =
        let begins = inlined_begins machine whole slot at unit child in
        let first : Slot = record { unit = begins.0; index = 0; line = begins.1 } in
        let both : Some next ≡ Some first = sym slot_read ∙ ap (slice_get (youngest_layout machine).slots) place_is ∙ begins.3 in
        let same : next ≡ first = cc both in
        sym (parent_read units number u units_are number_is) ∙ ap (λ (s : Slot). site_of (youngest_layout machine).units s.unit) same ∙ ap (option_and_then (λ (v : CodeUnit). v.parent)) begins.2

-- a site at that slot is at its unit and its index
pub not_elsewhere : (slot : Slot) (read : Option Site) (site : Site) → read ≡ Some site → read ≡ Some (site_at slot)
    → ((site.unit ≡ slot.unit) × (site.index ≡ slot.index → ⊥)) ⊎ (site.unit ≡ slot.unit → ⊥) → ⊥
not_elsewhere slot read site is at either =
    let both : Some site ≡ Some (site_at slot) = sym is ∙ at in
    let same : site ≡ site_at slot = cc both in
    elim either [
      | inl other_index ↦ other_index.1 (ap (λ (s : Site). s.index) same)
      | inr other_unit ↦ other_unit (ap (λ (s : Site). s.unit) same)
    ]

-- there is a slot after the youngest frame's, if a unit was inlined there
pub child_is_next : (machine : Machine) → IsMachine machine → (slots : List Slot) (place : ℕ) → slots ≡ (youngest_layout machine).slots → place ≡ suc machine.stack.frame.slot → (unit : ℕ) → IsChild machine unit
    → length slots ≤ place → ⊥
child_is_next machine whole slots place slots_are place_is unit child past =
    let slot = slot_there (program_of machine) machine.stack.frame whole.placed.0.code in
    let begins = inlined_begins machine whole slot.0 slot.1 unit child in
    let within = slice_get_within (youngest_layout machine).slots (suc machine.stack.frame.slot) (record { unit = begins.0; index = 0; line = begins.1 }) begins.3 in
    omega (arith, within, ap length slots_are, place_is, past)

-- the place that was read of the first slot of a unit of the youngest frame's code
pub place_read : (old : Machine) (frame : CodeFrame) (unit : ℕ) (read o : Option ℕ) → frame ≡ old.stack.frame → read ≡ slot_of (layout_of (program_of old) frame.code) unit 0 → read ≡ o
    → slot_of (youngest_layout old) unit 0 ≡ o
place_read old frame unit read o same is found = ap (λ f. slot_of (layout_of (program_of old) f.code) unit 0) (sym same) ∙ sym is ∙ found
