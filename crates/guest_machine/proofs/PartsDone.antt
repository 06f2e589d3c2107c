-- What the operations that optimise functions and give optimised code up are made of.
use Rattle.std.proofs.Common.{◌≡◌, ℕ, ◌<◌, ◌≤◌, List, [], ◌∷◌, ◌++◌, map, refl, ap, ap₂, ◌∙◌, sym, subst}
use Rattle.std.proofs.lemmas.Bool.{lt-ltb, le-ltb, eq-eqb, eqb-true, false_from_ne_true}
use Rattle.std.proofs.lemmas.List.{reverse-append, reverse-reverse}
use Rattle.std.specs.Prelude.{Bool, true, false, cond, reverse, None, Ok, Err, is_some, nat_lt, slice_set, codes, ◌==◌, ◌&&◌}
use Rattle.std.specs.List.{AllByRecursion}
use Rattle.std.specs.Result.{OnOk}
use Rattle.std.specs.declared.result.Result.{Result}
use Rattle.prof_base.specs.declared.ids.FuncId.{FuncId}
use Rattle.guest_program.specs.InlinedSize.{inlined_size}
use Rattle.guest_program.specs.Program.{IsProgram}
use Rattle.code_event.specs.declared.event.CodeEvent.{CodeEvent}
use Rattle.code_event.specs.declared.layout.TheConstants.Layout.{MAX_ABOVE, MAX_SLOTS}
use Rattle.code_layout.proofs.Standing.{all_both}
use Rattle.code_objects.specs.Changes.{HasCode, OthersStay, same_kind, same_name}
use Rattle.code_objects.specs.CodeObjects.{CodeParts, optimised_name, plain_name, start_at}
use Rattle.code_objects.specs.declared.name.CodeKind.TheVariants.{Plain, Optimised}
use Rattle.code_objects.specs.declared.name.CodeName.{CodeName}
use Rattle.guest_stack.proofs.GivingUp.{given_up_are_in_code, none_is_in_given_up_code}
use Rattle.guest_stack.specs.Laws.{IsInCode, IsPlaced}
use Rattle.guest_stack.specs.Stack.{Physical, Position, all_given_up, frame_positions, given_up, is_optimised, is_optimised_of, plain_code_frame}
use Rattle.guest_stack.specs.declared.stack.CodeFrame.{CodeFrame}
use Rattle.guest_machine.proofs.KeptCode.{all_reversed}
use Rattle.guest_machine.proofs.Machines.{all_in_code}
use Rattle.guest_machine.proofs.Raised.{AreEnsured, more_ensured, raises_then}
use Rattle.guest_machine.specs.Machine.{IsMachine, program_of}
use Rattle.guest_machine.specs.Raises.{CanBeSure, Creates, Disabled, GivenUp, NoneGoes, OptimisedStays, Raises, no_reason, reason_of}
use Rattle.guest_machine.specs.Rules.{AreSure, Disables, IsCreated, IsFreed, IsGivenUp, IsNotOptimised, IsSure, Then, frames_of}
use Rattle.guest_machine.specs.declared.machine.Machine.{Machine}

-- two facts of what went well
pub on_both : {T E P Q R : Type 0} (r : Result T E) → (P → Q → R) → OnOk r P → OnOk r Q → OnOk r R
on_both (Ok x) both p q = both p q
on_both (Err e) both p q = tt

-- A function that has plain code is disabled.
module _ (old : Machine) (code : CodeParts) (new : Machine) (func : FuncId) (reason : List ℕ) (before between after : List CodeEvent) (sure : Raises (IsSure (plain_name func)) no_reason old.code code before between)
    (funcs : code.funcs ≡ old.code.funcs) where
  pub disabled_so : Raises (IsNotOptimised func reason) (reason_of code.funcs func reason) code new.code between after → new ≡ record old { code = code; disabled = slice_set old.disabled func.0 true }
      → Disabled func reason old new before after
  disabled_so raises new_is =
      record {
        raises = subst (λ fs. Raises (Disables func reason) (reason_of fs func reason) old.code new.code before after) funcs
            (raises_then old.code code new.code before between after (IsSure (plain_name func)) (IsNotOptimised func reason) no_reason (reason_of code.funcs func reason) sure raises);
        same = new_is ∙ ap (λ c. record old { code = c; disabled = slice_set old.disabled func.0 true }) (sym (ap (λ m. m.code) new_is));
      }

-- A function whose code is not too large gets it,
pub created_so : (old : Machine) (code new : CodeParts) (func : FuncId) (before between after : List CodeEvent) → Raises (IsSure (plain_name func)) no_reason old.code code before between → code.funcs ≡ old.code.funcs
    → Raises (IsCreated (optimised_name func)) no_reason code new between after → inlined_size code.funcs MAX_ABOVE func.0 ≤ MAX_SLOTS
    → Creates (nat_lt MAX_SLOTS (inlined_size (program_of old) MAX_ABOVE func.0)) func old (record old { code = new }) before after
created_so old code new func before between after sure funcs raises small =
    let small_here : inlined_size (program_of old) MAX_ABOVE func.0 ≤ MAX_SLOTS = subst (λ fs. inlined_size fs MAX_ABOVE func.0 ≤ MAX_SLOTS) funcs small in
    subst (λ b. Creates b func old (record old { code = new }) before after) (sym (le-ltb MAX_SLOTS (inlined_size (program_of old) MAX_ABOVE func.0) small_here))
    (record {
      raises = raises_then old.code code new before between after (IsSure (plain_name func)) (IsCreated (optimised_name func)) no_reason no_reason sure raises;
      same = refl;
    })

-- and one whose code is too large is disabled.
pub too_large_so : (old : Machine) (code same : CodeParts) (new : Machine) (func : FuncId) (reason : List ℕ) (before between unraised after : List CodeEvent)
    → Raises (IsSure (plain_name func)) no_reason old.code code before between → code.funcs ≡ old.code.funcs → same ≡ code → unraised ≡ between → MAX_SLOTS < inlined_size code.funcs MAX_ABOVE func.0 → reason ≡ codes "too large"
    → Raises (IsNotOptimised func reason) (reason_of same.funcs func reason) same new.code unraised after → new ≡ record old { code = same; disabled = slice_set old.disabled func.0 true }
    → Creates (nat_lt MAX_SLOTS (inlined_size (program_of old) MAX_ABOVE func.0)) func old new before after
too_large_so old code same new func reason before between unraised after sure funcs same_is unraised_is large reason_is raises new_is =
    let large_here : MAX_SLOTS < inlined_size (program_of old) MAX_ABOVE func.0 = subst (λ fs. MAX_SLOTS < inlined_size fs MAX_ABOVE func.0) funcs large in
    let sure_same : Raises (IsSure (plain_name func)) no_reason old.code same before unraised =
    subst (λ c. Raises (IsSure (plain_name func)) no_reason old.code c before unraised) (sym same_is) (subst (λ es. Raises (IsSure (plain_name func)) no_reason old.code code before es) (sym unraised_is) sure) in
    subst (λ b. Creates b func old new before after) (sym (lt-ltb MAX_SLOTS (inlined_size (program_of old) MAX_ABOVE func.0) large_here))
    (subst (λ r. Disabled func r old new before after) reason_is
    (disabled_so old same new func reason before unraised after sure_same (ap (λ c. c.funcs) same_is ∙ funcs) raises new_is))

-- What frames become can be made sure of: plain code always can, and other frames were in code.

plain_there : (code : CodeParts) (all : List Position) → AllByRecursion (λ frame. is_optimised frame.code.kind ≡ true → HasCode code frame.code) (map plain_code_frame all)
plain_there code [] = tt
plain_there code (position ∷ more) = (λ is. absurd (cc is), plain_there code more)

one_there : (code : CodeParts) (frame : CodeFrame) (b : Bool) → HasCode code frame.code
    → AllByRecursion (λ frame. is_optimised frame.code.kind ≡ true → HasCode code frame.code) (cond b (map plain_code_frame (frame_positions code.funcs frame)) (frame ∷ []))
one_there code frame true has = plain_there code (frame_positions code.funcs frame)
one_there code frame false has = (λ is. has, tt)

all_there : (code : CodeParts) (func : ℕ) (frames : List CodeFrame) → AllByRecursion (IsPlaced code.funcs (start_at code.starts)) frames
    → AllByRecursion (λ frame. is_optimised frame.code.kind ≡ true → HasCode code frame.code) (all_given_up code.funcs func frames)
all_there code func [] placed = tt
all_there code func (frame ∷ frames) placed =
    all_both (λ f. is_optimised f.code.kind ≡ true → HasCode code f.code) (given_up code.funcs func frame) (all_given_up code.funcs func frames)
    (one_there code frame (is_optimised_of func frame.code) (ap is_some placed.0.start.1)) (all_there code func frames placed.1)

both_sure : (code : CodeParts) (frames : List CodeFrame) → AllByRecursion (IsInCode code.funcs) frames → AllByRecursion (λ frame. is_optimised frame.code.kind ≡ true → HasCode code frame.code) frames
    → AllByRecursion (λ frame. CanBeSure code frame.code) frames
both_sure code [] in_code there = tt
both_sure code (frame ∷ frames) in_code there = (record { func = in_code.0.func; there = there.0 }, both_sure code frames in_code.1 there.1)

pub given_up_sure : (code : CodeParts) (func : ℕ) (frames : List CodeFrame) → IsProgram code.funcs → AllByRecursion (IsPlaced code.funcs (start_at code.starts)) frames
    → AllByRecursion (λ frame. CanBeSure code frame.code) (all_given_up code.funcs func frames)
given_up_sure code func frames program placed =
    both_sure code (all_given_up code.funcs func frames) (given_up_are_in_code code.funcs func frames program (all_in_code code.funcs (start_at code.starts) frames placed)) (all_there code func frames placed)

-- code that is not the optimised code of a function has another name
other_name : (func : FuncId) (name : CodeName) → is_optimised_of func.0 name ≡ false → same_name (optimised_name func) name ≡ false
other_name func name apart = by_kind name.kind refl
  where
    turned : (a b : ℕ) → (a == b) ≡ (b == a)
    turned a b = by_test (a == b) refl
      where
        by_test : (t : Bool) → (a == b) ≡ t → (a == b) ≡ (b == a)
        by_test true is = is ∙ sym (eq-eqb b a (sym (eqb-true a b is)))
        by_test false is = is ∙ sym (false_from_ne_true (b == a) (λ other. let both : true ≡ false = sym (eq-eqb a b (sym (eqb-true b a other))) ∙ is in absurd (cc both)))

    by_kind : (kind : _) → name.kind ≡ kind → same_name (optimised_name func) name ≡ false
    by_kind Plain is = ap (λ k. func.0 == name.func.0 && same_kind Optimised k) is ∙ never (func.0 == name.func.0)
      where
        never : (b : Bool) → (b && false) ≡ false
        never true = refl
        never false = refl
    by_kind Optimised is =
        ap (λ k. func.0 == name.func.0 && same_kind Optimised k) is
        ∙ ap (λ b. b && true) (turned func.0 name.func.0)
        ∙ sym (ap (λ k. name.func.0 == func.0 && is_optimised k) is)
        ∙ apart

-- the optimised code of another function has another name
pub optimised_apart : (func other : FuncId) → (other.0 ≡ func.0 → ⊥) → same_name (optimised_name func) (optimised_name other) ≡ false
optimised_apart func other apart = other_name func (optimised_name other) (ap (λ b. b && true) (false_from_ne_true (other.0 == func.0) (λ is. apart (eqb-true other.0 func.0 is))))

-- The frames of a machine whose optimised code is given up.
module _ (old : Machine) (func : FuncId) (whole : IsMachine old) (stack : Physical) (frames_are : stack.frame ∷ stack.callers ≡ all_given_up old.code.funcs func.0 (frames_of old)) (oldest : List CodeFrame) (oldest_are : reverse oldest ≡ stack.callers) where
  sure_frames : AllByRecursion (λ frame. CanBeSure old.code frame.code) (stack.frame ∷ stack.callers)
  sure_frames = subst (AllByRecursion (λ frame. CanBeSure old.code frame.code)) (sym frames_are) (given_up_sure old.code func.0 (frames_of old) whole.program whole.placed)

  pub sure_youngest : CanBeSure old.code stack.frame.code
  sure_youngest = sure_frames.0

  oldest_is : oldest ≡ reverse stack.callers
  oldest_is = sym (reverse-reverse oldest) ∙ ap reverse oldest_are

  pub sure_oldest : AllByRecursion (λ frame. CanBeSure old.code frame.code) oldest
  sure_oldest = subst (AllByRecursion (λ frame. CanBeSure old.code frame.code)) (sym oldest_is) (all_reversed (λ frame. CanBeSure old.code frame.code) stack.callers sure_frames.1)

  all_frames : oldest ++ stack.frame ∷ [] ≡ reverse (stack.frame ∷ stack.callers)
  all_frames = ap (λ l. l ++ stack.frame ∷ []) oldest_is ∙ sym (reverse-append (stack.frame ∷ []) stack.callers)

  -- the code of each frame is there, also after the optimised code is freed
  still_there : (sure freed : CodeParts) → OthersStay sure freed (optimised_name func) → AllByRecursion (λ frame. HasCode sure frame.code) (oldest ++ stack.frame ∷ [])
      → AllByRecursion (λ frame. HasCode freed frame.code) (stack.frame ∷ stack.callers)
  still_there sure freed others there =
      let turned : AllByRecursion (λ frame. HasCode sure frame.code) (stack.frame ∷ stack.callers) =
      subst (AllByRecursion (λ frame. HasCode sure frame.code)) (reverse-reverse (stack.frame ∷ stack.callers))
      (all_reversed (λ frame. HasCode sure frame.code) (reverse (stack.frame ∷ stack.callers)) (subst (AllByRecursion (λ frame. HasCode sure frame.code)) all_frames there)) in
      let apart : AllByRecursion (λ frame. is_optimised_of func.0 frame.code ≡ false) (stack.frame ∷ stack.callers) =
      subst (AllByRecursion (λ frame. is_optimised_of func.0 frame.code ≡ false)) (sym frames_are) (none_is_in_given_up_code old.code.funcs func.0 (frames_of old)) in
      in_both (stack.frame ∷ stack.callers) turned apart
    where
      in_both : (frames : List CodeFrame) → AllByRecursion (λ frame. HasCode sure frame.code) frames → AllByRecursion (λ frame. is_optimised_of func.0 frame.code ≡ false) frames
          → AllByRecursion (λ frame. HasCode freed frame.code) frames
      in_both [] there apart = tt
      in_both (frame ∷ frames) there apart = (ap is_some (others frame.code (other_name func frame.code apart.0)) ∙ there.0, in_both frames there.1 apart.1)

  pub given_up_so : (reason : List ℕ) (some sure freed : CodeParts) (before said made all after : List CodeEvent)
      → Raises (IsGivenUp func reason) (reason_of old.code.funcs func reason) old.code old.code before said → AreEnsured oldest old.code some said made
      → Raises (IsSure stack.frame.code) no_reason some sure made all → HasCode sure stack.frame.code → NoneGoes some sure → OptimisedStays some sure → sure.funcs ≡ some.funcs
      → Raises (IsFreed (optimised_name func)) no_reason sure freed all after → start_at freed.starts (optimised_name func) ≡ None → OthersStay sure freed (optimised_name func)
      → stack.registers ≡ old.stack.registers → stack.saved ≡ old.stack.saved
      → GivenUp func reason old (record old { code = freed; stack = stack }) before after
  given_up_so reason some sure freed before said made all after says are raises there stays optimised funcs frees none others registers saved =
      let ensured = more_ensured oldest stack.frame old.code some sure said made all are raises there stays optimised funcs in
      record {
        raises = raises_then old.code old.code freed before said after (IsGivenUp func reason) (Then (AreSure (map (λ (f : CodeFrame). f.code) (reverse (stack.frame ∷ stack.callers)))) (IsFreed (optimised_name func)))
            (reason_of old.code.funcs func reason) no_reason says
            (raises_then old.code sure freed said all after (AreSure (map (λ (f : CodeFrame). f.code) (reverse (stack.frame ∷ stack.callers)))) (IsFreed (optimised_name func)) no_reason no_reason
            (subst (λ fs. Raises (AreSure (map (λ (f : CodeFrame). f.code) fs)) no_reason old.code sure said all) all_frames ensured.raises) frees);
        frames = frames_are;
        same = ap₂ (λ rs ss. record old { code = freed; stack = record { frame = stack.frame; callers = stack.callers; registers = rs; saved = ss } }) registers saved;
        there = still_there sure freed others ensured.there;
        none = none;
        others = λ other apart. others (optimised_name other) (optimised_apart func other apart) ∙ ensured.optimised other;
      }
