-- That what frees and moves code keeps the rules.
use Rattle.std.proofs.Common.{◌≡◌, List, [], ◌∷◌, refl, ap, ap₂, ◌∙◌, sym, subst}
use Rattle.std.proofs.lemmas.List.{reverse-append}
use Rattle.std.proofs.lemmas.List.Folds.{list_any-append}
use Rattle.std.specs.Prelude.{Bool, true, false, not, ◌&&◌, ◌||◌, None, reverse}
use Rattle.std.specs.List.{list_any}
use Rattle.prof_base.specs.declared.ids.FuncId.{FuncId}
use Rattle.guest_program.specs.declared.instr.Op.TheVariants as op
use Rattle.code_event.specs.declared.event.CodeEvent.{CodeEvent}
use Rattle.code_objects.specs.Changes.{same_name}
use Rattle.code_objects.specs.CodeObjects.{CodeParts, plain_name}
use Rattle.code_objects.specs.declared.name.CodeName.{CodeName}
use Rattle.guest_machine.proofs.Moved.{then_keeps}
use Rattle.guest_machine.specs.Machine.{ActKeepsRules, Advances, HasMoved, IsMachine, program_of}
use Rattle.guest_machine.specs.Rules.{Choice, Drops, IsCompacted, IsFreed, Unchanged, frames_of, gone_to, has_code, is_any_in}
use Rattle.plain_machine.specs.PlainMachine.{does}
use Rattle.guest_stack.specs.declared.stack.CodeFrame.{CodeFrame}
use Rattle.guest_machine.specs.declared.machine.Machine.{Machine}

-- one of a list passes a test where one of the reversed list does
pub any_reversed : {X : Type 0} (p : X → Bool) (xs : List X) → list_any p (reverse xs) ≡ list_any p xs
any_reversed p [] = refl
any_reversed p (x ∷ xs) =
    ap (list_any p) (reverse-append (x ∷ []) xs)
    ∙ list_any-append p (reverse xs) (x ∷ [])
    ∙ swapped (list_any p (reverse xs)) (p x)
    ∙ ap (λ b. p x || b) (any_reversed p xs)
  where
    swapped : (a b : Bool) → (a || (b || false)) ≡ (b || a)
    swapped true true = refl
    swapped true false = refl
    swapped false true = refl
    swapped false false = refl

-- a frame is in code that the youngest frame is not in where a caller is
pub used_by : (frames reversed : List CodeFrame) (first : CodeFrame) (name : CodeName) (used : Bool) → same_name name first.code ≡ false → reverse reversed ≡ frames
    → used ≡ list_any (λ (f : CodeFrame). same_name name f.code) reversed → used ≡ is_any_in (first ∷ frames) name
used_by frames reversed first name used elsewhere frames_are is =
    is
    ∙ sym (any_reversed (λ (f : CodeFrame). same_name name f.code) reversed)
    ∙ ap (list_any (λ (f : CodeFrame). same_name name f.code)) frames_are
    ∙ sym (ap (λ b. b || list_any (λ (f : CodeFrame). same_name name f.code) frames) elsewhere)

-- The youngest frame went on, and then the code changed.
module _ (old mid new : Machine) (events : List CodeEvent) (whole : IsMachine old) (going : old.ended ≡ None) (has : HasMoved true old mid) (same : mid.code ≡ old.code) (new_is : new ≡ record mid { code = new.code })
    (funcs : new.code.funcs ≡ mid.code.funcs) where
  frames_are : frames_of new ≡ frames_of mid
  frames_are = ap frames_of new_is

  ended_is : new.ended ≡ mid.ended
  ended_is = ap (λ m. m.ended) new_is

  program_is : program_of new ≡ program_of old
  program_is = funcs ∙ ap (λ c. c.funcs) same

  -- the code was compacted
  pub compacts_keep : Advances old new (λ state frame callers. does (program_of old) state frame callers op.Gc) → IsCompacted mid.code new.code events → ActKeepsRules old new events op.Gc
  compacts_keep advances compacted =
      then_keeps old mid new events op.Gc whole going has frames_are ended_is program_is advances (λ state frame callers is stack_is index frames. record {
        code = subst (λ code. IsCompacted code new.code events) same compacted;
        frames = frames_are ∙ frames;
      })

  -- code was freed, or not, as it was in use
  pub drops_keep : (func : FuncId) → Advances old new (λ state frame callers. does (program_of old) state frame callers (op.Drop func)) → Drops func (frames_of mid) mid.code new.code events
      → ActKeepsRules old new events (op.Drop func)
  drops_keep func advances dropped =
      then_keeps old mid new events (op.Drop func) whole going has frames_are ended_is program_is advances (λ state frame callers is stack_is index frames. record {
        code = subst (λ code. Drops func (gone_to index old) code new.code events) same (subst (λ fs. Drops func fs mid.code new.code events) frames dropped);
        frames = frames_are ∙ frames;
      })

-- Code is kept that is not there, and that is in use.
pub kept_absent : (there used : Bool) → there ≡ false → (there && not used) ≡ false
kept_absent there used is = ap (λ b. b && not used) is

pub kept_used : (there used : Bool) → used ≡ true → (there && not used) ≡ false
kept_used true used is = ap not is
kept_used false used is = refl

-- Nothing is freed that is not there, or that a frame is in.
pub drops_none : (func : FuncId) (frames : List CodeFrame) (code : CodeParts) (events : List CodeEvent) → (has_code code (plain_name func) && not (is_any_in frames (plain_name func))) ≡ false → events ≡ []
    → Drops func frames code code events
drops_none func frames code events kept none = subst (λ b. Choice b (IsFreed (plain_name func)) Unchanged code code events) (sym kept) (refl, none)

-- What is there is freed where no frame is in it.
pub drops_some : (func : FuncId) (frames : List CodeFrame) (old new : CodeParts) (events : List CodeEvent) → has_code old (plain_name func) ≡ true → is_any_in frames (plain_name func) ≡ false
    → IsFreed (plain_name func) old new events → Drops func frames old new events
drops_some func frames old new events there unused freed =
    subst (λ b. Choice b (IsFreed (plain_name func)) Unchanged old new events) (sym (ap₂ (λ a (b : Bool). a && not b) there unused)) freed
