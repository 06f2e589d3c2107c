-- The frames that frames of optimised code become, in lists of which the oldest comes first.
use Rattle.std.proofs.Common.{◌≡◌, ℕ, suc, List, [], ◌∷◌, ◌++◌, reverse, refl, ap, ap₂, ◌∙◌, sym, append_assoc, append-nil}
use Rattle.std.proofs.lemmas.Bool.{cond-true, eqb-true}
use Rattle.std.proofs.lemmas.Grind.{flat_map-append}
use Rattle.std.proofs.lemmas.List.{reverse-append, reverse-reverse}
use Rattle.std.specs.Prelude.{Bool, true, false, cond, map, flat_map, Some, None, ◌==◌, ◌&&◌}
use Rattle.std.specs.Option.{option_map_or}
use Rattle.std.specs.List.{slice_get}
use Rattle.prof_base.specs.declared.ids.FuncId.{FuncId}
use Rattle.guest_program.specs.declared.instr.Func.{Func}
use Rattle.code_event.specs.Layout.{site_of}
use Rattle.code_event.specs.Parts.{LayoutParts}
use Rattle.code_event.specs.declared.layout.Site.{Site}
use Rattle.code_layout.specs.Laws.{func_at}
use Rattle.code_objects.specs.CodeObjects.{layout_of, optimised_name}
use Rattle.code_objects.specs.declared.name.CodeKind.{CodeKind}
use Rattle.code_objects.specs.declared.name.CodeKind.TheVariants.{Plain, Optimised}
use Rattle.guest_stack.specs.Stack.{site_position, slot_positions, plain_code_frame, is_optimised, is_optimised_of, all_given_up}
use Rattle.guest_stack.specs.GivingUp.{frames_above, given_up_by, all_given_up_by}
use Rattle.guest_stack.specs.declared.stack.CodeFrame.{CodeFrame}
use Rattle.guest_stack.proofs.Positions.{above_some}

-- those above a unit are those above the unit of its call, and then that of the call
pub frames_above-more : (most less : ℕ) (layout : LayoutParts) (unit : ℕ) (site : Site) (old mid new : List CodeFrame) → most ≡ suc less → site_of layout.units unit ≡ Some site
    → mid ≡ old ++ reverse (frames_above less layout site.unit) → new ≡ mid ++ plain_code_frame (func_at layout.units site.unit, site.index) ∷ [] → new ≡ old ++ reverse (frames_above most layout unit)
frames_above-more most less layout unit site old mid new most_is site_is mid_is new_is =
    let call = plain_code_frame (site_position layout site) in
    let all : frames_above most layout unit ≡ call ∷ frames_above less layout site.unit =
    ap (λ m. frames_above m layout unit) most_is ∙ ap (λ sites. map plain_code_frame (map (site_position layout) sites)) (above_some less layout.units unit site site_is) in
    new_is
    ∙ ap (λ m. m ++ call ∷ []) mid_is
    ∙ append_assoc old (reverse (frames_above less layout site.unit)) (call ∷ [])
    ∙ ap (λ more. old ++ more) (sym (reverse-append (call ∷ []) (frames_above less layout site.unit)))
    ∙ sym (ap (λ more. old ++ reverse more) all)

-- a frame at no slot stands for nothing
pub given_up_by-none : (layout : LayoutParts) (func : ℕ) (frame : CodeFrame) (old : List CodeFrame) → is_optimised_of func frame.code ≡ true → slice_get layout.slots frame.slot ≡ None
    → old ≡ old ++ reverse (given_up_by layout func frame)
given_up_by-none layout func frame old optimised none =
    let nothing : given_up_by layout func frame ≡ [] =
    cond-true (is_optimised_of func frame.code) _ _ optimised ∙ ap (λ o. map plain_code_frame (option_map_or (slot_positions layout) o [])) none in
    sym (ap (λ more. old ++ reverse more) nothing ∙ append-nil old)

-- Parts of which each is reversed, in reverse order.
flat_map-reversed : {X Y : Type 0} (g : X → List Y) (xs : List X) → reverse (flat_map (λ x. reverse (g x)) xs) ≡ flat_map g (reverse xs)
flat_map-reversed g [] = refl
flat_map-reversed g (x ∷ xs) =
    reverse-append (reverse (g x)) (flat_map (λ y. reverse (g y)) xs)
    ∙ ap₂ (λ first others. first ++ others) (flat_map-reversed g xs) (reverse-reverse (g x) ∙ sym (append-nil (g x)))
    ∙ sym (flat_map-append g (reverse xs) (x ∷ []))
    ∙ sym (ap (flat_map g) (reverse-append (x ∷ []) xs))

-- what frames become, where that is added for one after the other
pub all_given_up_by-reverse : (layout : LayoutParts) (func : ℕ) (frames : List CodeFrame)
    → reverse (flat_map (λ frame. reverse (given_up_by layout func frame)) frames) ≡ all_given_up_by layout func (reverse frames)
all_given_up_by-reverse layout func frames = flat_map-reversed (given_up_by layout func) frames

-- what a stack becomes, where what its youngest frame becomes is added to what its callers become
pub all_given_up_by-added : (layout : LayoutParts) (func : ℕ) (youngest : CodeFrame) (callers old new : List CodeFrame)
    → reverse old ≡ all_given_up_by layout func callers → new ≡ old ++ reverse (given_up_by layout func youngest) → reverse new ≡ all_given_up_by layout func (youngest ∷ callers)
all_given_up_by-added layout func youngest callers old new old_is new_is =
    ap reverse new_is
    ∙ reverse-append old (reverse (given_up_by layout func youngest))
    ∙ ap₂ (λ first others. first ++ others) (reverse-reverse (given_up_by layout func youngest)) old_is

-- The code that is given up is named by its function.
optimised_case : (func other : FuncId) (kind : CodeKind) → (other.0 == func.0 && is_optimised kind) ≡ true → record { func = other; kind = kind } ≡ optimised_name func
optimised_case func other Plain is = let both : false ≡ true = sym (never (other.0 == func.0)) ∙ is in absurd (cc both)
  where
    never : (b : Bool) → (b && false) ≡ false
    never true = refl
    never false = refl
optimised_case func other Optimised is = ap (λ n. record { func = record { 0 = n }; kind = Optimised }) (eqb-true other.0 func.0 (whole (other.0 == func.0) is))
  where
    whole : (b : Bool) → (b && true) ≡ true → b ≡ true
    whole true is = refl
    whole false is = is

given_up_case : (funcs : List Func) (func : FuncId) (frame : CodeFrame) (b : Bool) → is_optimised_of func.0 frame.code ≡ b
    → cond b (map plain_code_frame (option_map_or (slot_positions (layout_of funcs (optimised_name func))) (slice_get (layout_of funcs (optimised_name func)).slots frame.slot) [])) (frame ∷ [])
    ≡ cond b (map plain_code_frame (option_map_or (slot_positions (layout_of funcs frame.code)) (slice_get (layout_of funcs frame.code).slots frame.slot) [])) (frame ∷ [])
given_up_case funcs func frame true is =
    ap (λ code. map plain_code_frame (option_map_or (slot_positions (layout_of funcs code)) (slice_get (layout_of funcs code).slots frame.slot) [])) (sym (optimised_case func frame.code.func frame.code.kind is))
given_up_case funcs func frame false is = refl

pub all_given_up_by-all_given_up : (funcs : List Func) (func : FuncId) (stack : List CodeFrame) → all_given_up_by (layout_of funcs (optimised_name func)) func.0 stack ≡ all_given_up funcs func.0 stack
all_given_up_by-all_given_up funcs func [] = refl
all_given_up_by-all_given_up funcs func (frame ∷ stack) =
    ap₂ (λ first others. first ++ others) (given_up_case funcs func frame (is_optimised_of func.0 frame.code) refl) (all_given_up_by-all_given_up funcs func stack)
