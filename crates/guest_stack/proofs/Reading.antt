-- That a stack read through the ranges of the code is what the stack stands for.
use Rattle.std.proofs.Common.{◌≡◌, ℕ, zero, suc, ◌+◌, ◌-◌, ◌*◌, ◌/◌, ◌<◌, ◌≤◌, List, [], ◌∷◌, ◌++◌, length, map, ◌⊎◌, inl, inr, refl, ap, ap₂, ◌∙◌, sym, arith}
use Rattle.std.proofs.lemmas.Bool.{cond-false, ne_eqb}
use Rattle.std.proofs.lemmas.Bool.Decides.{nat_tests}
use Rattle.std.proofs.lemmas.Grind.{flat_map-append}
use Rattle.std.proofs.lemmas.List.Folds.{find_at}
use Rattle.std.specs.Prelude.{Bool, true, false, cond, Option, Some, None, flat_map, find, option_map, unwrap_or, ◌==◌, ◌&&◌, nat_lt, nat_le}
use Rattle.std.specs.Option.{option_map_or, option_and_then, option_to_list}
use Rattle.std.specs.List.{slice_get, AllByRecursion}
use Rattle.guest_program.specs.Program.{IsProgram}
use Rattle.guest_program.specs.declared.instr.Func.{Func}
use Rattle.guest_program.specs.declared.instr.Instr.{Instr}
use Rattle.code_event.specs.CodeMap.{meets, range_at, range_of}
use Rattle.code_event.specs.Laws.{AreDisjoint}
use Rattle.code_event.specs.Layout.{site_of, sites_above}
use Rattle.code_event.specs.Parts.{LayoutParts}
use Rattle.code_event.specs.Symbolizer.{unit_frame, slot_frames, holds, range_frames, frames_at, caller_frames, stack_frames}
use Rattle.code_event.specs.declared.code_map.Range.{Range}
use Rattle.code_event.specs.declared.layout.Unit.{Unit as CodeUnit}
use Rattle.code_event.specs.declared.layout.Site.{Site}
use Rattle.code_event.specs.declared.layout.Slot.{Slot}
use Rattle.code_event.specs.declared.seen.ResolvedFrame.{ResolvedFrame}
use Rattle.code_layout.specs.Layouts.{entry_of, no_entry, unit_of}
use Rattle.code_layout.specs.Laws.{func_at, HasLine, IsCallOf, IsCodeOf, IsSlotOf}
use Rattle.code_layout.proofs.Expanding.{get_there}
use Rattle.code_objects.specs.CodeObjects.{layout_of, depth_of, IsCode}
use Rattle.code_objects.specs.declared.name.CodeName.{CodeName}
use Rattle.plain_machine.proofs.InBody.{got}
use Rattle.guest_stack.proofs.Positions.{layout_is_code, slot_is, slot_there, above_some, above_none}
use Rattle.plain_machine.specs.PlainFrames.{resolved_frame}
use Rattle.guest_stack.specs.Stack.{Position, site_position, slot_positions, frame_positions, stack_positions, address, addresses, frame_at, resolved_positions}
use Rattle.guest_stack.specs.Laws.{IsPlaced, StacksAreRead}
use Rattle.guest_stack.specs.declared.stack.CodeFrame.{CodeFrame}

-- the function at a position, at its line
abbrev pub resolved : List Func → Position → List ResolvedFrame
resolved funcs position = resolved_frame funcs (frame_at position [])

held_apart : (address start size other_start other_size : ℕ) → (nat_lt start (other_start + other_size) && nat_lt other_start (start + size)) ≡ false
    → (nat_le other_start address && nat_lt address (other_start + other_size)) ≡ true → (nat_le start address && nat_lt address (start + size)) ≡ false
held_apart address start size other_start other_size apart inside = grind (arith, nat_tests)

-- an address in a range is found there, as disjoint ranges share no address
by_address_case : (start address : ℕ) (range first : Range) (ranges : List Range) (b : Bool) → (first.start == start) ≡ b → AllByRecursion (λ other. meets first other ≡ false) ranges
    → holds address range ≡ true → (range_at ranges start ≡ Some range → find (holds address) ranges ≡ Some range)
    → cond b (Some first) (range_at ranges start) ≡ Some range → cond (holds address first) (Some first) (find (holds address) ranges) ≡ Some range
by_address_case start address range first ranges true e apart inside rest found =
    let same : first ≡ range = cc found in
    ap (λ (r : Range). cond (holds address r) (Some r) (find (holds address) ranges)) same ∙ ap (λ b. cond b (Some range) (find (holds address) ranges)) inside
by_address_case start address range first ranges false e apart inside rest found =
    let starts_here : Range → Bool = λ r. r.start == start in
    let not_met : meets first range ≡ false = got (λ r. meets first r ≡ false) ranges _ range apart (sym (find_at starts_here ranges) ∙ found) in
    ap (λ b. cond b (Some first) (find (holds address) ranges)) (held_apart address first.start first.size range.start range.size not_met inside) ∙ rest found

by_address : (ranges : List Range) (start address : ℕ) (range : Range) → AreDisjoint ranges → range_at ranges start ≡ Some range → holds address range ≡ true → find (holds address) ranges ≡ Some range
by_address [] start address range disjoint found inside = absurd (cc found)
by_address (first ∷ ranges) start address range disjoint found inside =
    by_address_case start address range first ranges (first.start == start) refl disjoint.0 inside (λ f. by_address ranges start address range disjoint.1 f inside) found

-- In the layout of a function's code.
module _ (funcs : List Func) (depth number : ℕ) (layout : LayoutParts) (code : IsCodeOf funcs depth number layout) where
  named_frame : (unit index line : ℕ) (u : CodeUnit) (f : Func) → slice_get layout.units unit ≡ Some u → slice_get funcs u.func.0 ≡ Some f → u ≡ unit_of funcs u.func.0 u.parent
      → HasLine funcs (func_at layout.units unit) index line → unit_frame layout unit line ≡ resolved funcs (func_at layout.units unit, index)
  named_frame unit index line u f at known named is =
      let here : func_at layout.units unit ≡ u.func.0 = ap (λ o. option_map_or (λ (v : CodeUnit). v.func.0) o 0) at in
      let found : slice_get funcs (func_at layout.units unit) ≡ Some f = ap (slice_get funcs) here ∙ known in
      let entry : u.entry ≡ entry_of f = ap (λ (v : CodeUnit). v.entry) named ∙ ap (λ o. option_map_or entry_of o no_entry) known in
      let body : slice_get f.body index ≡ Some is.0 = sym (ap (λ o. slice_get (option_map_or (λ (g : Func). g.body) o []) index) found) ∙ is.1 in
      ap (λ o. option_to_list (option_map (λ (v : CodeUnit). record { entry = v.entry; line = line }) o)) at
      ∙ ap₂ (λ e l. record { entry = e; line = l } ∷ []) entry is.2
      ∙ sym (ap (λ o. option_map_or (λ (instr : Instr). record { entry = entry_of f; line = instr.line } ∷ []) o []) body)
      ∙ sym (ap (λ o. option_map_or (λ (g : Func). option_map_or (λ (instr : Instr). record { entry = entry_of g; line = instr.line } ∷ []) (slice_get g.body index) []) o []) found)

  unit_read : (unit index line : ℕ) → unit < length layout.units → HasLine funcs (func_at layout.units unit) index line → unit_frame layout unit line ≡ resolved funcs (func_at layout.units unit, index)
  unit_read unit index line there is =
      let u = get_there layout.units unit there in
      let named = (code.units unit u.0 u.1).named in
      named_frame unit index line u.0 named.0 u.1 named.1 named.2 is

  abbrev above_frames : List Site → List ResolvedFrame
  above_frames sites = flat_map (λ (site : Site). unit_frame layout site.unit site.line) sites

  -- what is read above a unit, at the lines of the sites, is the functions at the calls
  abbrev ReadsAbove : ℕ → ℕ → Type 0
  ReadsAbove most unit = above_frames (sites_above most layout.units unit) ≡ resolved_positions funcs (map (site_position layout) (sites_above most layout.units unit))

  above_first : (most unit : ℕ) → site_of layout.units unit ≡ None → ReadsAbove most unit
  above_first most unit none = let all = above_none most layout.units unit none in ap above_frames all ∙ sym (ap (λ sites. resolved_positions funcs (map (site_position layout) sites)) all)

  above_site : (most unit : ℕ) (u : CodeUnit) (site : Site) → slice_get layout.units unit ≡ Some u → u.parent ≡ Some site → site.unit < length layout.units → IsCallOf funcs layout.units u site → ReadsAbove most site.unit → ReadsAbove (suc most) unit
  above_site most unit u site at parent there is rest =
      let here : site_of layout.units unit ≡ Some site = ap (option_and_then (λ v. v.parent)) at ∙ parent in
      let all = above_some most layout.units unit site here in
      ap above_frames all
      ∙ ap₂ (λ first others. first ++ others) (unit_read site.unit site.index site.line there (is.0, is.1, is.2)) rest
      ∙ sym (ap (λ sites. resolved_positions funcs (map (site_position layout) sites)) all)

  above_case : (most unit : ℕ) (u : CodeUnit) → unit < length layout.units → slice_get layout.units unit ≡ Some u → ((site : ℕ) → site < length layout.units → ReadsAbove most site)
      → (unit ≡ 0) ⊎ ((site : Site) × (u.parent ≡ Some site) × (site.unit < unit) × IsCallOf funcs layout.units u site × (length (sites_above depth layout.units site.unit) < depth)) → ReadsAbove (suc most) unit
  above_case most unit u there at rest (inl zero_is) =
      above_first (suc most) unit (ap (λ n. site_of layout.units n) zero_is ∙ ap (option_and_then (λ v. v.parent)) code.first)
  above_case most unit u there at rest (inr some) =
      let less = some.2 in let site_there : some.0.unit < length layout.units = omega (arith, less, there) in
      above_site most unit u some.0 at some.1 site_there some.3 (rest some.0.unit site_there)

  above_read : (most unit : ℕ) → unit < length layout.units → ReadsAbove most unit
  above_read zero unit there = refl
  above_read (suc most) unit there =
      let u = get_there layout.units unit there in
      above_case most unit u.0 there u.1 (λ site known. above_read most site known) (code.units unit u.0 u.1).inlined

  pub slot_read : (slot : Slot) → IsSlotOf funcs layout slot → slot_frames layout slot ≡ resolved_positions funcs (slot_positions layout slot)
  slot_read slot is = ap₂ (λ first others. first ++ others) (unit_read slot.unit slot.index slot.line is.0 is.1) (above_read 4 slot.unit is.0)

-- the slot of an address is that whose four bytes it is in
slot_number : (start slot past : ℕ) → past < 4 → (start + 4 * slot + past - start) / 4 ≡ slot
slot_number start slot past less = omega (arith, less)

inside : (start size address : ℕ) → start ≤ address → address < start + size → (nat_le start address && nat_lt address (start + size)) ≡ true
inside start size address least most = grind (arith, nat_tests)

module _ (funcs : List Func) (starts : CodeName → Option ℕ) (ranges : List Range) (program : IsProgram funcs) (code : IsCode (layout_of funcs) starts ranges) (disjoint : AreDisjoint ranges) where
  -- an address of a slot, at one of its four bytes
  byte_read : (frame : CodeFrame) (past : ℕ) → IsPlaced funcs starts frame → past < 4 → frames_at ranges (address starts frame + past) ≡ resolved_positions funcs (frame_positions funcs frame)
  byte_read frame past placed less =
      let layout = layout_of funcs frame.code in
      let start = placed.start.0 in
      let below = placed.code.slot in
      let range : Range = range_of start layout in
      let slot = slot_there funcs frame placed.code in
      let here : address starts frame + past ≡ start + 4 * frame.slot + past = ap (λ o. unwrap_or o 0 + 4 * frame.slot + past) placed.start.1 in
      let found : find (holds (start + 4 * frame.slot + past)) ranges ≡ Some range =
      by_address ranges start (start + 4 * frame.slot + past) range disjoint (code.there frame.code start placed.start.1)
      (inside start (4 * length layout.slots) (start + 4 * frame.slot + past) (omega arith) (omega (arith, below, less))) in
      let is = slot_is funcs frame.code frame.slot slot.0 program placed.code.func slot.1 in
      ap (frames_at ranges) here
      ∙ ap (λ o. option_map_or (range_frames (start + 4 * frame.slot + past)) o []) found
      ∙ ap (λ n. option_map_or (slot_frames layout) (slice_get layout.slots n) []) (slot_number start frame.slot past less)
      ∙ ap (λ o. option_map_or (slot_frames layout) o []) slot.1
      ∙ slot_read funcs (depth_of frame.code.kind) frame.code.func.0 layout (layout_is_code funcs frame.code program placed.code.func) slot.0 is
      ∙ sym (ap (λ o. resolved_positions funcs (option_map_or (slot_positions layout) o [])) slot.1)

  youngest_read : (frame : CodeFrame) → IsPlaced funcs starts frame → frames_at ranges (address starts frame) ≡ resolved_positions funcs (frame_positions funcs frame)
  youngest_read frame placed = let same : address starts frame ≡ address starts frame + 0 = omega arith in ap (frames_at ranges) same ∙ byte_read frame 0 placed (omega arith)

  -- the call before a return address
  caller_read : (frame : CodeFrame) → IsPlaced funcs starts frame → caller_frames ranges (address starts frame + 4) ≡ resolved_positions funcs (frame_positions funcs frame)
  caller_read frame placed =
      let before : address starts frame + 4 - 1 ≡ address starts frame + 3 = omega arith in
      cond-false (address starts frame + 4 == 0) _ _ (ne_eqb (address starts frame + 4) 0 (λ same. absurd (omega (arith, same))))
      ∙ ap (frames_at ranges) before ∙ byte_read frame 3 placed (omega arith)

  callers_read : (callers : List CodeFrame) → AllByRecursion (IsPlaced funcs starts) callers
      → flat_map (caller_frames ranges) (map (λ frame. address starts frame + 4) callers) ≡ resolved_positions funcs (stack_positions funcs callers)
  callers_read [] all = refl
  callers_read (caller ∷ callers) all =
      ap₂ (λ first others. first ++ others) (caller_read caller all.0) (callers_read callers all.1)
      ∙ sym (flat_map-append (resolved funcs) (frame_positions funcs caller) (stack_positions funcs callers))

  stack_read : (stack : List CodeFrame) → AllByRecursion (IsPlaced funcs starts) stack → stack_frames ranges (addresses starts stack) ≡ resolved_positions funcs (stack_positions funcs stack)
  stack_read [] all = refl
  stack_read (youngest ∷ callers) all =
      ap₂ (λ first others. first ++ others) (youngest_read youngest all.0) (callers_read callers all.1)
      ∙ sym (flat_map-append (resolved funcs) (frame_positions funcs youngest) (stack_positions funcs callers))

pub stacks_are_read : StacksAreRead
stacks_are_read funcs starts ranges stack program code disjoint all = stack_read funcs starts ranges program code disjoint stack all
