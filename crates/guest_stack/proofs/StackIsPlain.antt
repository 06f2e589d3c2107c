-- That what is read of the physical stack is what the plain machine shows.
use Rattle.std.proofs.Common.{◌≡◌, ℕ, List, [], ◌∷◌, ◌++◌, length, reverse, refl, ap, ap₂, ◌∙◌, sym, arith, append-nil}
use Rattle.std.proofs.lemmas.Grind.{flat_map-append}
use Rattle.std.proofs.lemmas.List.{reverse-append}
use Rattle.std.specs.Prelude.{cond, Option, Some, None, flat_map}
use Rattle.std.specs.Option.{option_map_or}
use Rattle.std.specs.List.{slice_get, AllByRecursion}
use Rattle.guest_program.specs.InlinedSize.{body_of}
use Rattle.guest_program.specs.Program.{IsProgram}
use Rattle.guest_program.specs.declared.instr.Func.{Func}
use Rattle.guest_program.specs.declared.instr.Instr.{Instr}
use Rattle.code_event.specs.Laws.{AreDisjoint}
use Rattle.code_event.specs.Symbolizer.{stack_frames, or_program, frames_over}
use Rattle.code_event.specs.declared.code_map.Range.{Range}
use Rattle.code_event.specs.declared.seen.ResolvedFrame.{ResolvedFrame}
use Rattle.code_event.specs.declared.tick.VmState.{VmState}
use Rattle.code_event.specs.declared.tick.VmState.TheVariants.{Js, Idle, Native, Gc}
use Rattle.code_layout.specs.Layouts.{entry_of}
use Rattle.code_layout.specs.Laws.{func_at}
use Rattle.code_objects.specs.CodeObjects.{layout_of, IsCode}
use Rattle.code_objects.specs.declared.name.CodeName.{CodeName}
use Rattle.guest_stack.proofs.Positions.{slot_is, slot_there}
use Rattle.guest_stack.proofs.Reading.{resolved, stacks_are_read}
use Rattle.plain_machine.specs.PlainMachine.{Frame, is_js}
use Rattle.plain_machine.specs.PlainFrames.{resolved_frame}
use Rattle.guest_stack.specs.Stack.{Position, positions_above, slot_positions, frame_positions, stack_positions, addresses, framed, resolved_positions, Physical, positions, Stands, EachHasRegisters}
use Rattle.guest_stack.specs.Laws.{IsPlaced, StackIsPlain}
use Rattle.guest_stack.specs.declared.stack.CodeFrame.{CodeFrame}

-- a list of at most one
abbrev IsLone : {X : Type 0} → List X → Type 0
IsLone [] = Unit {0}
IsLone (x ∷ []) = Unit {0}
IsLone (x ∷ y ∷ xs) = ⊥

lone_reversed : {X : Type 0} (xs : List X) → IsLone xs → reverse xs ≡ xs
lone_reversed [] lone = refl
lone_reversed (x ∷ []) lone = refl
lone_reversed (x ∷ y ∷ xs) lone = absurd lone

-- where each gives at most one, the reverse of what all give is what the reverse gives
reversed_both : {X Y : Type 0} (f : X → List Y) → ((x : X) → IsLone (f x)) → (xs : List X) → reverse (flat_map f xs) ≡ flat_map f (reverse xs)
reversed_both f lone [] = refl
reversed_both f lone (x ∷ xs) =
    reverse-append (f x) (flat_map f xs)
    ∙ ap₂ (λ first others. first ++ others) (reversed_both f lone xs) (lone_reversed (f x) (lone x))
    ∙ ap (λ others. flat_map f (reverse xs) ++ others) (sym (append-nil (f x)))
    ∙ sym (flat_map-append f (reverse xs) (x ∷ []))
    ∙ sym (ap (flat_map f) (reverse-append (x ∷ []) xs))

frame_lone : (funcs : List Func) (frame : Frame) → IsLone {X = ResolvedFrame} (resolved_frame funcs frame)
frame_lone funcs frame = by_func (slice_get funcs frame.func)
  where
    by_instr : (func : Func) (o : Option Instr) → IsLone {X = ResolvedFrame} (option_map_or (λ instr. record { entry = entry_of func; line = instr.line } ∷ []) o [])
    by_instr func None = tt
    by_instr func (Some instr) = tt

    by_func : (o : Option Func) → IsLone {X = ResolvedFrame} (option_map_or (λ func. option_map_or (λ instr. record { entry = entry_of func; line = instr.line } ∷ []) (slice_get func.body frame.index) []) o [])
    by_func None = tt
    by_func (Some func) = by_instr func (slice_get func.body frame.index)

-- frames at positions show what the positions show
framed_shown : (funcs : List Func) (all : List Position) (registers : List (List ℕ)) → length all ≡ length registers → flat_map (resolved_frame funcs) (framed all registers) ≡ resolved_positions funcs all
framed_shown funcs [] registers same = refl
framed_shown funcs (position ∷ all) [] same = absurd (omega (arith, same))
framed_shown funcs (position ∷ all) (these ∷ registers) same = ap (λ others. resolved funcs position ++ others) (framed_shown funcs all registers (omega (arith, same)))

-- a list with a frame names the program by no frame of its own
or_program_some : (first : ResolvedFrame) (frames : List ResolvedFrame) → or_program (frames ++ first ∷ []) ≡ frames ++ first ∷ []
or_program_some first [] = refl
or_program_some first (frame ∷ frames) = refl

-- a function at one of its instructions is named
position_named : (funcs : List Func) (func index : ℕ) (instr : Instr) (o : Option Func) → slice_get funcs func ≡ o → slice_get (body_of funcs func) index ≡ Some instr → (frame : ResolvedFrame) × (resolved funcs (func, index) ≡ frame ∷ [])
position_named funcs func index instr None none found =
    let empty : slice_get (body_of funcs func) index ≡ None = ap (λ o. slice_get (option_map_or (λ (f : Func). f.body) o []) index) none in
    let both : Some instr ≡ None = sym found ∙ empty in absurd (cc both)
position_named funcs func index instr (Some f) some found =
    let body : slice_get f.body index ≡ Some instr = sym (ap (λ o. slice_get (option_map_or (λ (g : Func). g.body) o []) index) some) ∙ found in
    let frame : ResolvedFrame = record { entry = entry_of f; line = instr.line } in (
      frame,
      ap (λ o. option_map_or (λ (g : Func). option_map_or (λ (i : Instr). record { entry = entry_of g; line = i.line } ∷ []) (slice_get g.body index) []) o []) some
          ∙ ap (λ o. option_map_or (λ (i : Instr). record { entry = entry_of f; line = i.line } ∷ []) o []) body,
    )

-- the youngest function is named
youngest_named : (funcs : List Func) (starts : CodeName → Option ℕ) (frame : CodeFrame) → IsProgram funcs → IsPlaced funcs starts frame
    → (first : ResolvedFrame) × (more : List ResolvedFrame) × (resolved_positions funcs (frame_positions funcs frame) ≡ first ∷ more)
youngest_named funcs starts frame program placed =
    let layout = layout_of funcs frame.code in
    let slot = slot_there funcs frame placed.code in
    let is = slot_is funcs frame.code frame.slot slot.0 program placed.code.func slot.1 in
    let func = func_at layout.units slot.0.unit in
    let named = position_named funcs func slot.0.index is.1.0 (slice_get funcs func) refl is.1.1 in
    let above = resolved_positions funcs (positions_above layout slot.0.unit) in
    (named.0, above, ap (λ o. resolved_positions funcs (option_map_or (slot_positions layout) o [])) slot.1 ∙ ap (λ first. first ++ above) named.1)

js_read : (funcs : List Func) (starts : CodeName → Option ℕ) (ranges : List Range) (it : Physical) (stack : List Frame)
    → IsProgram funcs → IsCode (layout_of funcs) starts ranges → AreDisjoint ranges → AllByRecursion (IsPlaced funcs starts) (it.frame ∷ it.callers) → EachHasRegisters funcs it → Stands funcs it stack
    → or_program (reverse (stack_frames ranges (addresses starts (it.frame ∷ it.callers)))) ≡ flat_map (resolved_frame funcs) (reverse stack)
js_read funcs starts ranges it stack program code disjoint placed sizes stands =
    let read = stacks_are_read funcs starts ranges (it.frame ∷ it.callers) program code disjoint placed in
    let named = youngest_named funcs starts it.frame program placed.0 in
    let others = named.1 ++ resolved_positions funcs (stack_positions funcs it.callers) in
    let all : resolved_positions funcs (positions funcs it) ≡ named.0 ∷ others =
    flat_map-append (resolved funcs) (frame_positions funcs it.frame) (stack_positions funcs it.callers) ∙ ap (λ first. first ++ resolved_positions funcs (stack_positions funcs it.callers)) named.2 in
    let turned : reverse (named.0 ∷ others) ≡ reverse others ++ named.0 ∷ [] = reverse-append (named.0 ∷ []) others in
    ap (λ frames. or_program (reverse frames)) (read ∙ all)
    ∙ ap or_program turned
    ∙ or_program_some named.0 (reverse others)
    ∙ sym turned
    ∙ ap reverse (sym all)
    ∙ ap reverse (sym (framed_shown funcs (positions funcs it) (it.registers ∷ it.saved) sizes))
    ∙ ap (λ s. reverse (flat_map (resolved_frame funcs) s)) (sym stands)
    ∙ reversed_both (resolved_frame funcs) (frame_lone funcs) stack

pub stack_is_plain : StackIsPlain
stack_is_plain funcs starts ranges it state program code disjoint placed sizes stands = by_engine state.state
  where
    by_engine : (engine : VmState) → frames_over ranges engine (addresses starts (it.frame ∷ it.callers)) ≡ cond (is_js engine) (flat_map (resolved_frame funcs) (reverse state.stack)) (frames_over [] engine [])
    by_engine Js = js_read funcs starts ranges it state.stack program code disjoint placed sizes stands
    by_engine Idle = refl
    by_engine Native = refl
    by_engine Gc = refl
