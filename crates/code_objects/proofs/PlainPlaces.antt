-- The places of slots in plain code are their indices.
use Rattle.std.proofs.Common.{◌≡◌, ℕ, suc, ◌+◌, List, [], ◌∷◌, length, refl, ap, ◌∙◌, sym, subst, arith}
use Rattle.std.proofs.lemmas.Bool.Decides.{nat_tests}
use Rattle.std.specs.Prelude.{Bool, true, false, cond, Option, Some, None, ◌==◌, ◌&&◌, nat_lt, nat_le}
use Rattle.guest_program.specs.InlinedSize.{body_of}
use Rattle.guest_program.specs.declared.instr.Func.{Func}
use Rattle.guest_program.specs.declared.instr.Instr.{Instr}
use Rattle.code_event.specs.Parts.{LayoutParts}
use Rattle.code_layout.proofs.Expanding.{plain_inlines_nothing}
use Rattle.code_layout.specs.Laws.{slot_from, slot_of}
use Rattle.code_layout.specs.Layouts.{slots_from, plain_layout, layout_to}
use Rattle.code_objects.specs.Objects.{index_of}

-- the unit is 0, and the index one of these
abbrev is_there : ℕ → ℕ → ℕ → ℕ → Bool
is_there unit index first count = unit == 0 && nat_le first index && nat_lt index (first + count)

length-slots_from : (first : ℕ) (instrs : List Instr) → length (slots_from first instrs) ≡ length instrs
length-slots_from first [] = refl
length-slots_from first (instr ∷ instrs) = ap (λ n. suc n) (length-slots_from (suc first) instrs)

here : (unit index first count : ℕ) → (0 == unit && first == index) ≡ true → is_there unit index first (suc count) ≡ true
here unit index first count is = grind (arith, nat_tests)

index_here : (unit index first : ℕ) → (0 == unit && first == index) ≡ true → first ≡ index
index_here unit index first is = grind (arith, nat_tests)

later : (unit index first count : ℕ) → (0 == unit && first == index) ≡ false → is_there unit index (suc first) count ≡ is_there unit index first (suc count)
later unit index first count is = grind (arith, nat_tests)

nowhere : (unit index first : ℕ) → is_there unit index first 0 ≡ false
nowhere unit index first = grind (arith, nat_tests)

found_case : (unit index first count : ℕ) (rest : Option ℕ) (b : Bool) → (0 == unit && first == index) ≡ b → rest ≡ cond (is_there unit index (suc first) count) (Some index) None
    → cond b (Some first) rest ≡ cond (is_there unit index first (suc count)) (Some index) None
found_case unit index first count rest true is found = ap (λ n. Some n) (index_here unit index first is) ∙ sym (ap (λ b. cond b (Some index) None) (here unit index first count is))
found_case unit index first count rest false is found = found ∙ ap (λ b. cond b (Some index) None) (later unit index first count is)

slot_found : (first : ℕ) (instrs : List Instr) (unit index : ℕ) → slot_from first (slots_from first instrs) unit index ≡ cond (is_there unit index first (length instrs)) (Some index) None
slot_found first [] unit index = sym (ap (λ b. cond b (Some index) None) (nowhere unit index first))
slot_found first (instr ∷ instrs) unit index =
    found_case unit index first (length instrs) (slot_from (suc first) (slots_from (suc first) instrs) unit index) (0 == unit && first == index) refl (slot_found (suc first) instrs unit index)

from_first : (unit index count size : ℕ) → count ≡ size → is_there unit index 0 count ≡ (unit == 0 && nat_lt index size)
from_first unit index count size same = grind (arith, nat_tests)

pub plain_places : (funcs : List Func) (number unit index : ℕ) → slot_of (plain_layout funcs number) unit index ≡ index_of (plain_layout funcs number) unit index
plain_places funcs number unit index =
    slot_found 0 (body_of funcs number) unit index
    ∙ ap (λ b. cond b (Some index) None) (from_first unit index (length (body_of funcs number)) (length (slots_from 0 (body_of funcs number))) (sym (length-slots_from 0 (body_of funcs number))))

-- the same of a layout that is that one
pub are_indices : (funcs : List Func) (number : ℕ) (layout : LayoutParts) → layout ≡ plain_layout funcs number → (unit index : ℕ) → slot_of layout unit index ≡ index_of layout unit index
are_indices funcs number layout is unit index = subst (λ l. slot_of l unit index ≡ index_of l unit index) (sym is) (plain_places funcs number unit index)

pub is_layout : (funcs : List Func) (number : ℕ) (layout : LayoutParts) → layout ≡ plain_layout funcs number → layout ≡ layout_to funcs 0 number
is_layout funcs number layout is = is ∙ plain_inlines_nothing funcs number
