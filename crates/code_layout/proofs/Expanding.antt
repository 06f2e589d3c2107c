-- That layouts are code of their functions.
use Rattle.std.proofs.Common.{◌≡◌, ℕ, zero, suc, ◌+◌, ◌<◌, ◌≤◌, List, [], ◌∷◌, length, min, inl, inr, refl, ap, ap₂, ◌∙◌, sym, subst, arith}
use Rattle.std.proofs.lemmas.Bool.{cases_lt}
use Rattle.std.proofs.lemmas.Option.{slice_get_within, slice_get_past}
use Rattle.std.specs.Prelude.{Bool, true, false, cond, Option, Some, None}
use Rattle.std.specs.Option.{option_map_or, option_and_then}
use Rattle.std.specs.List.{slice_get, AllByRecursion}
use Rattle.guest_program.specs.InlinedSize.{body_of, is_inline, called}
use Rattle.guest_program.specs.Program.{IsProgram, IsFunc}
use Rattle.guest_program.specs.declared.instr.Func.{Func}
use Rattle.guest_program.specs.declared.instr.Instr.{Instr}
use Rattle.guest_program.specs.declared.instr.Op.{Op}
use Rattle.code_event.specs.Layout.{site_of, sites_above}
use Rattle.code_event.specs.Parts.{LayoutParts}
use Rattle.code_event.specs.declared.layout.Unit.{Unit as CodeUnit}
use Rattle.code_event.specs.declared.layout.Site.{Site}
use Rattle.code_event.specs.declared.layout.Slot.{Slot}
use Rattle.code_layout.specs.Layouts.{unit_of, slots_from, nothing, joined, with_unit, Inlined, expanded_from, inline_callee, inlined_at, expanded, layout_to}
use Rattle.code_layout.specs.Laws.{func_at, slot_from, slot_of, IsUnitOf, IsSlotOf, IsFollowed, BeginsAt, LayoutsAreCode, PlainInlinesNothing, PlainSlotsAreInstructions}
use Rattle.code_layout.proofs.Standing.{StandAt, AllNumbered, stands, stand_left, stand_right, numbered_both, numbered_at, all_both, all_left, all_right, each_slot_is_found}

-- the body of a function of a program has an instruction
pub body_some : (count : ℕ) (funcs : List Func) (number : ℕ) → AllByRecursion (IsFunc count) funcs → number < length funcs → 1 ≤ length (body_of funcs number)
body_some count [] number all less = absurd (omega arith)
body_some count (f ∷ funcs) zero all less = all.0.not_empty
body_some count (f ∷ funcs) (suc number) all less = body_some count funcs number all.1 (omega (arith, less))

pub get_there : {X : Type 0} (xs : List X) (place : ℕ) → place < length xs → (x : X) × (slice_get xs place ≡ Some x)
get_there [] place less = absurd (omega arith)
get_there (x ∷ xs) zero less = (x, refl)
get_there (x ∷ xs) (suc place) less = get_there xs place (omega (arith, less))

-- a function that is marked `inline` is in the program
pub inline_there : (funcs : List Func) (number : ℕ) → is_inline funcs number ≡ true → number < length funcs
inline_there funcs number inline = elim (cases_lt number (length funcs)) [
  | inl less ↦ less
  | inr past ↦ (let same : is_inline funcs number ≡ false = ap (λ p. option_map_or (λ f. f.inline) p false) (slice_get_past funcs number past) in absurd (grind arith))
]

-- The callee to be inlined is called, and marked;
inline_case : (funcs : List Func) (o : Option ℕ) (other callee : ℕ) (b : Bool) → is_inline funcs other ≡ b → o ≡ Some other → cond b (Some other) None ≡ Some callee → (o ≡ Some callee) × (is_inline funcs callee ≡ true)
inline_case funcs o other callee true is calls same = let e : other ≡ callee = cc in (calls ∙ ap Some e, subst (λ n. is_inline funcs n ≡ true) e is)
inline_case funcs o other callee false is calls same = absurd (cc)

inline_cases : (funcs : List Func) (o : Option ℕ) (callee : ℕ) → option_and_then (λ n. cond (is_inline funcs n) (Some n) None) o ≡ Some callee → (o ≡ Some callee) × (is_inline funcs callee ≡ true)
inline_cases funcs None callee same = absurd (cc)
inline_cases funcs (Some other) callee same = inline_case funcs (Some other) other callee (is_inline funcs other) refl refl same

pub inline_parts : (funcs : List Func) (op : Op) (callee : ℕ) → inline_callee funcs op ≡ Some callee → (called op ≡ Some callee) × (is_inline funcs callee ≡ true)
inline_parts funcs op callee same = inline_cases funcs (called op) callee same

-- and what is called and marked is to be inlined.
pub inline_from : (funcs : List Func) (op : Op) (callee : ℕ) → called op ≡ Some callee → is_inline funcs callee ≡ true → inline_callee funcs op ≡ Some callee
inline_from funcs op callee calls inline =
    ap (option_and_then (λ n. cond (is_inline funcs n) (Some n) None)) calls ∙ ap (λ b. cond b (Some callee) None) inline

-- the sites above a unit whose site is known
above_of : (most : ℕ) (units : List CodeUnit) (number : ℕ) (u : CodeUnit) (site : Site) → slice_get units number ≡ Some u → u.parent ≡ Some site → sites_above (suc most) units number ≡ site ∷ sites_above most units site.unit
above_of most units number u site at parent =
    let here : site_of units number ≡ Some site = ap (option_and_then (λ v. v.parent)) at ∙ parent in
    ap (λ o. option_map_or (λ s. s ∷ sites_above most units s.unit) o []) here

-- this many sites are above a unit
abbrev HasAbove : List CodeUnit → ℕ → ℕ → Type 0
HasAbove units number above = (most : ℕ) → length (sites_above most units number) ≡ min most above

deeper : (units : List CodeUnit) (number above : ℕ) (u : CodeUnit) (site : Site) → slice_get units number ≡ Some u → u.parent ≡ Some site → HasAbove units site.unit above → HasAbove units number (suc above)
deeper units number above u site at parent has zero = omega arith
deeper units number above u site at parent has (suc most) =
    let more : length (sites_above (suc most) units number) ≡ suc (length (sites_above most units site.unit)) = ap length (above_of most units number u site at parent) in
    let less : length (sites_above most units site.unit) ≡ min most above = has most in
    let step : suc (min most above) ≡ min (suc most) (suc above) = omega arith in
    more ∙ ap suc less ∙ step

-- none is above the first unit
first_above : (u : CodeUnit) (units : List CodeUnit) → u.parent ≡ None → HasAbove (u ∷ units) 0 0
first_above u units none zero = omega arith
first_above u units none (suc most) =
    let no : sites_above (suc most) (u ∷ units) 0 ≡ [] = ap (λ o. option_map_or (λ s. s ∷ sites_above most (u ∷ units) s.unit) o []) none in
    let size : length (sites_above (suc most) (u ∷ units) 0) ≡ 0 = ap length no in omega (arith, size)

-- a unit that is expanded begins with its first instruction
from_first : (all : List Slot) (inlined : Inlined) (place unit next : ℕ) (instrs : List Instr) → 1 ≤ length instrs → StandAt all place (expanded_from inlined unit next 0 instrs).slots
    → (line : ℕ) × (slice_get all place ≡ Some (record { unit = unit; index = 0; line = line }))
from_first all inlined place unit next [] some stand = absurd (omega arith)
from_first all inlined place unit next (instr ∷ instrs) some stand = (instr.line, stand.0)

-- In a layout to the depth top, of which these parts stand in the units and in the slots.
module _ (funcs : List Func) (program : IsProgram funcs) (top : ℕ) (layout : LayoutParts) where
  abbrev Found : Slot → Type 0
  Found slot = (place : ℕ) × (slot_of layout slot.unit slot.index ≡ Some place)

  abbrev Stands : LayoutParts → ℕ → ℕ → Type 0
  Stands parts number place = StandAt layout.units number parts.units × StandAt layout.slots place parts.slots × AllByRecursion Found parts.slots

  abbrev IsGood : LayoutParts → ℕ → ℕ → Type 0
  IsGood parts number place =
      AllNumbered (IsUnitOf funcs top layout) number parts.units × AllByRecursion (IsSlotOf funcs layout) parts.slots × AllNumbered (IsFollowed funcs top layout) place parts.slots

  joined_good : (one other : LayoutParts) (number place : ℕ) → IsGood one number place → IsGood other (number + length one.units) (place + length one.slots) → IsGood (joined one other) number place
  joined_good one other number place first second = (
    numbered_both (IsUnitOf funcs top layout) number one.units other.units first.0 second.0,
    all_both (IsSlotOf funcs layout) one.slots other.slots first.1 second.1,
    numbered_both (IsFollowed funcs top layout) place one.slots other.slots first.2 second.2,
  )

  stands_left : (one other : LayoutParts) (number place : ℕ) → Stands (joined one other) number place → Stands one number place
  stands_left one other number place stand =
      (stand_left layout.units number one.units other.units stand.0, stand_left layout.slots place one.slots other.slots stand.1, all_left Found one.slots other.slots stand.2)

  stands_right : (one other : LayoutParts) (number place : ℕ) → Stands (joined one other) number place → Stands other (number + length one.units) (place + length one.slots)
  stands_right one other number place stand =
      (stand_right layout.units number one.units other.units stand.0, stand_right layout.slots place one.slots other.slots stand.1, all_right Found one.slots other.slots stand.2)

  abbrev slot_at : ℕ → ℕ → Instr → Slot
  slot_at unit index instr = record { unit = unit; index = index; line = instr.line }

  abbrev added : Inlined → ℕ → ℕ → ℕ → Instr → LayoutParts
  added inlined unit next index instr = inlined next (record { unit = unit; index = index; line = instr.line }) instr.op

  -- what an instruction of a unit adds is good, and follows its slot
  abbrev AddsGood : Inlined → ℕ → Type 0
  AddsGood inlined unit =
      (next index place : ℕ) (instr : Instr) → unit < next → slice_get (body_of funcs (func_at layout.units unit)) index ≡ Some instr
      → Stands (added inlined unit next index instr) next (suc place)
      → IsGood (added inlined unit next index instr) next (suc place) × IsFollowed funcs top layout place (slot_at unit index instr)

  from_good : (inlined : Inlined) (unit next index place : ℕ) (instrs : List Instr) → AddsGood inlined unit → unit < next → unit < length layout.units
      → StandAt (body_of funcs (func_at layout.units unit)) index instrs → Stands (expanded_from inlined unit next index instrs) next place
      → IsGood (expanded_from inlined unit next index instrs) next place
  from_good inlined unit next index place [] good later there body stand = (tt, tt, tt)
  from_good inlined unit next index place (instr ∷ instrs) good later there body stand =
      let within = added inlined unit next index instr in
      let rest = expanded_from inlined unit (next + length within.units) (suc index) instrs in
      let behind : Stands (joined within rest) next (suc place) = (stand.0, stand.1.1, stand.2.1) in
      let here = good next index place instr later body.0 (stands_left within rest next (suc place) behind) in
      let both = joined_good within rest next (suc place) here.0
      (from_good inlined unit (next + length within.units) (suc index) (suc place + length within.slots) instrs good (omega arith) there body.1 (stands_right within rest next (suc place) behind)) in
      (both.0, ((there, (instr, body.0, refl)), both.1), (here.1, both.2))

  -- each index from the first on has its slot
  from_full : (inlined : Inlined) (unit next first : ℕ) (instrs : List Instr) → AllByRecursion Found (expanded_from inlined unit next first instrs).slots
      → (index : ℕ) → first ≤ index → index < first + length instrs → (place : ℕ) × (slot_of layout unit index ≡ Some place)
  from_full inlined unit next first [] all index least most = absurd (omega arith)
  from_full inlined unit next first (instr ∷ instrs) all index least most =
      let within = added inlined unit next first instr in
      let rest = expanded_from inlined unit (next + length within.units) (suc first) instrs in
      elim (cases_lt first index) [
        | inl less ↦ from_full inlined unit (next + length within.units) (suc first) instrs (all_right Found within.slots rest.slots all.1) index (omega (arith, less)) (omega (arith, most))
        | inr no_less ↦ (let same : first ≡ index = omega (arith, least, no_less) in subst (λ i. (place : ℕ) × (slot_of layout unit i ≡ Some place)) same all.0)
      ]

  expanded_full : (depth number unit : ℕ) → AllByRecursion Found (expanded funcs depth number unit).slots → (index : ℕ) → index < length (body_of funcs number) → (place : ℕ) × (slot_of layout unit index ≡ Some place)
  expanded_full depth number unit all index less = from_full (inlined_at funcs depth) unit (suc unit) 0 (body_of funcs number) all index (omega arith) (omega (arith, less))

  -- at the greatest depth nothing more is inlined
  nothing_good : (unit above : ℕ) → above ≡ top → HasAbove layout.units unit above → AddsGood (inlined_at funcs 0) unit
  nothing_good unit above is has next index place instr later found stand = (
    (tt, tt, tt),
    λ instr' callee found' calls inline fewer. let size : length (sites_above top layout.units unit) ≡ min top above = has top in absurd (omega (arith, size, fewer, is)),
  )

  -- what a call of an inline function adds is good, if what that function is expanded to is
  abbrev unit_at : ℕ → ℕ → Instr → ℕ → CodeUnit
  unit_at unit index instr callee = unit_of funcs callee (Some (record { unit = unit; index = index; line = instr.line }))

  call_good : (depth above unit next index place : ℕ) (instr : Instr) (callee : ℕ) → above + suc depth ≡ top → HasAbove layout.units unit above
      → unit < next → slice_get (body_of funcs (func_at layout.units unit)) index ≡ Some instr → called instr.op ≡ Some callee → is_inline funcs callee ≡ true
      → Stands (with_unit (unit_at unit index instr callee) (expanded funcs depth callee next)) next (suc place)
      → (HasAbove layout.units next (suc above) → IsGood (expanded funcs depth callee next) (suc next) (suc place))
      → IsGood (with_unit (unit_at unit index instr callee) (expanded funcs depth callee next)) next (suc place) × IsFollowed funcs top layout place (slot_at unit index instr)
  call_good depth above unit next index place instr callee room has later found calls inline within rest =
      let site : Site = record { unit = unit; index = index; line = instr.line } in
      let u = unit_at unit index instr callee in
      let here : HasAbove layout.units next (suc above) = deeper layout.units next above u site within.0.0 refl has in
      let behind = rest here in
      let there = inline_there funcs callee inline in
      let known = get_there funcs callee there in
      let fewer : length (sites_above top layout.units unit) ≡ min top above = has top in
      let begins = from_first layout.slots (inlined_at funcs depth) (suc place) next (suc next) (body_of funcs callee) (body_some (length funcs) funcs callee program.each there) within.1 in (
        (
          (
            record {
              named = (known.0, known.1, refl);
              full = λ i less. expanded_full depth callee next within.2 i less;
              inlined = inr (site, refl, later, (instr, found, refl, calls, inline), omega (arith, fewer, room));
              shallow = λ most. let size : length (sites_above most layout.units next) ≡ min most (suc above) = here most in omega (arith, size, room);
            },
            behind.0,
          ),
          behind.1,
          behind.2,
        ),
        λ instr' callee' found' calls' inline' fewer'.
            let same : instr ≡ instr' = grind arith in
            let called_same : Some callee ≡ Some callee' = sym calls ∙ ap (λ (i : Instr). called i.op) same ∙ calls' in
            let callee_same : callee ≡ callee' = grind arith in
            subst (λ n. BeginsAt funcs layout n site (suc place)) callee_same (next, begins.0, within.0.0, begins.1),
      )

  option_good : (depth above unit next index place : ℕ) (instr : Instr) (o : Option ℕ) → inline_callee funcs instr.op ≡ o
      → ((callee : ℕ) → called instr.op ≡ Some callee → is_inline funcs callee ≡ true
      → Stands (with_unit (unit_at unit index instr callee) (expanded funcs depth callee next)) next (suc place)
      → IsGood (with_unit (unit_at unit index instr callee) (expanded funcs depth callee next)) next (suc place) × IsFollowed funcs top layout place (slot_at unit index instr))
      → slice_get (body_of funcs (func_at layout.units unit)) index ≡ Some instr
      → Stands (option_map_or (λ callee. with_unit (unit_at unit index instr callee) (expanded funcs depth callee next)) o nothing) next (suc place)
      → IsGood (option_map_or (λ callee. with_unit (unit_at unit index instr callee) (expanded funcs depth callee next)) o nothing) next (suc place) × IsFollowed funcs top layout place (slot_at unit index instr)
  option_good depth above unit next index place instr None is good found stand = (
    (tt, tt, tt),
    λ instr' callee' found' calls' inline' fewer'.
        let same : instr ≡ instr' = grind arith in
        let some : inline_callee funcs instr.op ≡ Some callee' = ap (λ (i : Instr). inline_callee funcs i.op) same ∙ inline_from funcs instr'.op callee' calls' inline' in
        let never : None ≡ Some callee' = sym is ∙ some in absurd (cc),
  )
  option_good depth above unit next index place instr (Some callee) is good found stand = let marked = inline_parts funcs instr.op callee is in good callee marked.0 marked.1 stand

  pub expanded_good : (depth above number unit place : ℕ) → above + depth ≡ top → func_at layout.units unit ≡ number → unit < length layout.units → HasAbove layout.units unit above
      → Stands (expanded funcs depth number unit) (suc unit) place → IsGood (expanded funcs depth number unit) (suc unit) place
  expanded_good zero above number unit place room is there has stand =
      from_good (inlined_at funcs 0) unit (suc unit) 0 place (body_of funcs number) (nothing_good unit above (omega (arith, room)) has) (omega arith) there
      (subst (λ f. StandAt (body_of funcs f) 0 (body_of funcs number)) (sym is) (stands (body_of funcs number))) stand
  expanded_good (suc depth) above number unit place room is there has stand =
      from_good (inlined_at funcs (suc depth)) unit (suc unit) 0 place (body_of funcs number)
      (λ next index at instr later found within.
      option_good depth above unit next index at instr (inline_callee funcs instr.op) refl
      (λ callee calls inline standing. call_good depth above unit next index at instr callee room has later found calls inline standing
      (λ more. expanded_good depth (suc above) callee next (suc at) (omega (arith, room)) (ap (λ o. option_map_or (λ u. u.func.0) o 0) standing.0.0)
      (slice_get_within layout.units next (unit_at unit index instr callee) standing.0.0) more (standing.0.1, standing.1, standing.2)))
      found within)
      (omega arith) there (subst (λ f. StandAt (body_of funcs f) 0 (body_of funcs number)) (sym is) (stands (body_of funcs number))) stand

from_begins : (inlined : Inlined) (next : ℕ) (instrs : List Instr) → 1 ≤ length instrs → slot_from 0 (expanded_from inlined 0 next 0 instrs).slots 0 0 ≡ Some 0
from_begins inlined next [] some = absurd (omega arith)
from_begins inlined next (instr ∷ instrs) some = refl

pub layouts_are_code : LayoutsAreCode
layouts_are_code funcs depth number program there =
    let first = unit_of funcs number None in
    let rest = expanded funcs depth number 0 in
    let layout = layout_to funcs depth number in
    let f = get_there funcs number there in
    let found = each_slot_is_found layout.slots in
    let above : HasAbove layout.units 0 0 = first_above first rest.units refl in
    let good = expanded_good funcs program depth layout depth 0 number 0 0 (omega arith) refl (omega arith) above ((stands layout.units).1, stands layout.slots, found) in
    let first_good : IsUnitOf funcs depth layout 0 first = record {
      named = (f.0, f.1, refl);
      full = λ index less. expanded_full funcs program depth layout depth number 0 found index less;
      inlined = inl refl;
      shallow = λ most. let none : length (sites_above most layout.units 0) ≡ min most 0 = above most in omega (arith, none);
    } in
    let all : AllNumbered (IsUnitOf funcs depth layout) 0 layout.units = (first_good, good.0) in
    record {
      first = refl;
      begins = from_begins (inlined_at funcs depth) 1 (body_of funcs number) (body_some (length funcs) funcs number program.each there);
      units = λ place u is. let at : IsUnitOf funcs depth layout (0 + place) u = numbered_at (IsUnitOf funcs depth layout) 0 layout.units place u all is in
          let same : 0 + place ≡ place = omega arith in subst (λ n. IsUnitOf funcs depth layout n u) same at;
      slots = good.1;
      calls = λ place slot is. let at : IsFollowed funcs depth layout (0 + place) slot = numbered_at (IsFollowed funcs depth layout) 0 layout.slots place slot good.2 is in
          let same : 0 + place ≡ place = omega arith in subst (λ n. IsFollowed funcs depth layout n slot) same at;
    }

-- plain code is what inlines nothing
plain_slots : (funcs : List Func) (next index : ℕ) (instrs : List Instr) → slots_from index instrs ≡ (expanded_from (inlined_at funcs 0) 0 next index instrs).slots
plain_slots funcs next index [] = refl
plain_slots funcs next index (instr ∷ instrs) = ap (λ slots. record { unit = 0; index = index; line = instr.line } ∷ slots) (plain_slots funcs (next + 0) (suc index) instrs)

plain_units : (funcs : List Func) (next index : ℕ) (instrs : List Instr) → [] ≡ (expanded_from (inlined_at funcs 0) 0 next index instrs).units
plain_units funcs next index [] = refl
plain_units funcs next index (instr ∷ instrs) = plain_units funcs (next + 0) (suc index) instrs

pub plain_inlines_nothing : PlainInlinesNothing
plain_inlines_nothing funcs number =
    ap₂ (λ units slots. record { units = unit_of funcs number None ∷ units; slots = slots }) (plain_units funcs 1 0 (body_of funcs number)) (plain_slots funcs 1 0 (body_of funcs number))

-- the slot at a place
slot_there : (first : ℕ) (instrs : List Instr) (place : ℕ) (instr : Instr) → slice_get instrs place ≡ Some instr → slice_get (slots_from first instrs) place ≡ Some (record { unit = 0; index = first + place; line = instr.line })
slot_there first [] place instr found = absurd (grind arith)
slot_there first (other ∷ instrs) zero instr found =
    let same : other ≡ instr = grind arith in let here : first ≡ first + 0 = omega arith in
    let slot : ℕ → ℕ → Slot = λ index line. record { unit = 0; index = index; line = line } in
    ap₂ (λ (i : Instr) n. Some (slot n i.line)) same here
slot_there first (other ∷ instrs) (suc place) instr found =
    let later : suc first + place ≡ first + suc place = omega arith in
    let slot : ℕ → ℕ → Slot = λ index line. record { unit = 0; index = index; line = line } in
    slot_there (suc first) instrs place instr found ∙ ap (λ n. Some (slot n instr.line)) later

pub plain_slots_are_instructions : PlainSlotsAreInstructions
plain_slots_are_instructions funcs number index instr found =
    let here : 0 + index ≡ index = omega arith in
    let slot : ℕ → Slot = λ n. record { unit = 0; index = n; line = instr.line } in
    slot_there 0 (body_of funcs number) index instr found ∙ ap (λ n. Some (slot n)) here
