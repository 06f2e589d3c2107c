-- That no two units of a layout were inlined at the same instruction of the same unit.
use Rattle.std.proofs.Common.{◌≡◌, ℕ, zero, suc, ◌+◌, ◌<◌, ◌≤◌, List, [], ◌∷◌, ◌++◌, length, ◌⊎◌, inl, inr, refl, ap, ◌∙◌, sym, subst, arith}
use Rattle.std.proofs.lemmas.List.{length-append}
use Rattle.std.specs.Prelude.{Option, Some, None}
use Rattle.std.specs.Option.{option_map_or}
use Rattle.std.specs.List.{AllByRecursion}
use Rattle.guest_program.specs.InlinedSize.{body_of}
use Rattle.guest_program.specs.declared.instr.Func.{Func}
use Rattle.guest_program.specs.declared.instr.Instr.{Instr}
use Rattle.guest_program.specs.declared.instr.Op.{Op}
use Rattle.code_event.specs.Layout.{site_of}
use Rattle.code_event.specs.Parts.{LayoutParts}
use Rattle.code_event.specs.declared.layout.Unit.{Unit as CodeUnit}
use Rattle.code_event.specs.declared.layout.Site.{Site}
use Rattle.code_layout.specs.Layouts.{unit_of, nothing, with_unit, Inlined, expanded_from, expanded_by, inline_callee, inlined_at, layout_to}
use Rattle.code_layout.proofs.Standing.{all_both}
use Rattle.code_objects.specs.CodeObjects.{depth_of, layout_of}
use Rattle.code_objects.specs.declared.name.CodeName.{CodeName}

-- where a unit was inlined
abbrev HasSite : (Site → Type 0) → CodeUnit → Type 0
HasSite P u = (site : Site) × (u.parent ≡ Some site) × P site

-- two units were not inlined at the same instruction
abbrev IsApart : CodeUnit → CodeUnit → Type 0
IsApart one other = (s t : Site) → one.parent ≡ Some s → other.parent ≡ Some t → s.unit ≡ t.unit → s.index ≡ t.index → ⊥

-- no two of these were
abbrev AllApart : List CodeUnit → Type 0
AllApart [] = Unit {0}
AllApart (u ∷ units) = AllByRecursion (IsApart u) units × AllApart units

-- in a unit with one of these numbers
abbrev IsFrom : ℕ → ℕ → Site → Type 0
IsFrom next limit site = (next ≤ site.unit) × (site.unit < limit)

-- where what is inlined in a unit lies: at one of its instructions from this index on, or in a unit that was inlined in it
abbrev IsIn : ℕ → ℕ → ℕ → ℕ → Site → Type 0
IsIn unit index next limit site = ((site.unit ≡ unit) × (index ≤ site.index)) ⊎ IsFrom next limit site

-- where what is inlined at a site lies: there, or in a unit that was inlined in it
abbrev IsAt : Site → ℕ → ℕ → Site → Type 0
IsAt at next limit site = (site ≡ at) ⊎ IsFrom next limit site

all_weaker : {X : Type 0} (P Q : X → Type 0) (xs : List X) → ((x : X) → P x → Q x) → AllByRecursion P xs → AllByRecursion Q xs
all_weaker P Q [] goes all = tt
all_weaker P Q (x ∷ xs) goes all = (goes x all.0, all_weaker P Q xs goes all.1)

sites_weaker : (P Q : Site → Type 0) (units : List CodeUnit) → ((s : Site) → P s → Q s) → AllByRecursion (HasSite P) units → AllByRecursion (HasSite Q) units
sites_weaker P Q units goes all = all_weaker (HasSite P) (HasSite Q) units (λ u has. (has.0, has.1, goes has.0 has.2)) all

-- units whose sites are apart
apart_by : (P Q : Site → Type 0) → ((s t : Site) → P s → Q t → s.unit ≡ t.unit → s.index ≡ t.index → ⊥) → (one other : CodeUnit) → HasSite P one → HasSite Q other → IsApart one other
apart_by P Q apart one other has also s t s_is t_is =
    let same_s : Some has.0 ≡ Some s = sym has.1 ∙ s_is in
    let same_t : Some also.0 ≡ Some t = sym also.1 ∙ t_is in
    apart s t (subst P (cc same_s) has.2) (subst Q (cc same_t) also.2)

apart_both : (P Q : Site → Type 0) → ((s t : Site) → P s → Q t → s.unit ≡ t.unit → s.index ≡ t.index → ⊥) → (one other : List CodeUnit)
    → AllByRecursion (HasSite P) one → AllByRecursion (HasSite Q) other → AllApart one → AllApart other → AllApart (one ++ other)
apart_both P Q apart [] other has also first second = second
apart_both P Q apart (u ∷ one) other has also first second = (
  all_both (IsApart u) one other first.0 (all_weaker (HasSite Q) (IsApart u) other (λ v is. apart_by P Q apart u v has.0 is) also),
  apart_both P Q apart one other has.1 also first.1 second,
)

-- what an operation adds at a site lies there or in it, and is apart
abbrev AddsApart : Inlined → Type 0
AddsApart inlined =
    (next : ℕ) (site : Site) (op : Op) → site.unit < next
    → AllByRecursion (HasSite (IsAt site next (next + length (inlined next site op).units))) (inlined next site op).units × AllApart (inlined next site op).units

-- So does what is expanded of a unit.
from_apart : (inlined : Inlined) → AddsApart inlined → (unit next index : ℕ) (instrs : List Instr) → unit < next
    → AllByRecursion (HasSite (IsIn unit index next (next + length (expanded_from inlined unit next index instrs).units))) (expanded_from inlined unit next index instrs).units
    × AllApart (expanded_from inlined unit next index instrs).units
from_apart inlined adds unit next index [] later = (tt, tt)
from_apart inlined adds unit next index (instr ∷ instrs) later =
    let site : Site = record { unit = unit; index = index; line = instr.line } in
    let within = inlined next site instr.op in
    let middle = next + length within.units in
    let rest = expanded_from inlined unit middle (suc index) instrs in
    let all = within.units ++ rest.units in
    let size : length all ≡ length within.units + length rest.units = length-append within.units rest.units in
    let first = adds next site instr.op later in
    let second = from_apart inlined adds unit middle (suc index) instrs (omega (arith, later)) in (
      all_both (HasSite (IsIn unit index next (next + length all))) within.units rest.units
          (sites_weaker (IsAt site next middle) (IsIn unit index next (next + length all)) within.units (at_in site (next + length all) middle (omega (arith, size))) first.0)
          (sites_weaker (IsIn unit (suc index) middle (middle + length rest.units)) (IsIn unit index next (next + length all)) rest.units (in_in middle (middle + length rest.units) (next + length all) (omega arith) (omega (arith, size))) second.0),
      apart_both (IsAt site next middle) (IsIn unit (suc index) middle (middle + length rest.units)) (at_apart site middle (middle + length rest.units) refl refl (omega arith)) within.units rest.units first.0 second.0 first.1 second.1,
    )
  where
    at_in : (site : Site) (limit middle : ℕ) → middle ≤ limit → (s : Site) → IsAt site next middle s → IsIn site.unit site.index next limit s
    at_in site limit middle less s (inl same) = inl (ap (λ (x : Site). x.unit) same, let here : s.index ≡ site.index = ap (λ (x : Site). x.index) same in omega (arith, here))
    at_in site limit middle less s (inr from) = inr (from.0, omega (arith, from.1, less))

    in_in : (middle limit end : ℕ) → next ≤ middle → limit ≤ end → (s : Site) → IsIn unit (suc index) middle limit s → IsIn unit index next end s
    in_in middle limit end after less s (inl at) = inl (at.0, omega (arith, at.1))
    in_in middle limit end after less s (inr from) = inr (omega (arith, from.0, after), omega (arith, from.1, less))

    at_apart : (site : Site) (middle limit : ℕ) → site.unit ≡ unit → site.index ≡ index → next ≤ middle → (s t : Site) → IsAt site next middle s → IsIn unit (suc index) middle limit t → s.unit ≡ t.unit → s.index ≡ t.index → ⊥
    at_apart site middle limit unit_is index_is after s t (inl same) (inl at) same_unit same_index =
        let here : s.index ≡ site.index = ap (λ (x : Site). x.index) same in omega (arith, here, index_is, at.1, same_index)
    at_apart site middle limit unit_is index_is after s t (inl same) (inr from) same_unit same_index =
        let here : s.unit ≡ site.unit = ap (λ (x : Site). x.unit) same in omega (arith, here, unit_is, from.0, after, later, same_unit)
    at_apart site middle limit unit_is index_is after s t (inr from) (inl at) same_unit same_index = omega (arith, from.0, at.0, later, same_unit)
    at_apart site middle limit unit_is index_is after s t (inr from) (inr past) same_unit same_index = omega (arith, from.1, past.0, same_unit)

-- What an operation at a site adds, where this function is to be inlined.
module _ (funcs : List Func) (depth : ℕ) (next : ℕ) (site : Site) (later : site.unit < next) (apart : AddsApart (inlined_at funcs depth)) where
  abbrev with_callee : Option ℕ → LayoutParts
  with_callee o = option_map_or (λ callee. with_unit (unit_of funcs callee (Some site)) (expanded_by (inlined_at funcs depth) funcs callee next)) o nothing

  deeper_at : (limit all : ℕ) → limit ≤ all → next < all → (s : Site) → IsIn next 0 (suc next) limit s → IsAt site next all s
  deeper_at limit all less some s (inl at) = inr (omega (arith, at.0), omega (arith, at.0, some))
  deeper_at limit all less some s (inr from) = inr (omega (arith, from.0), omega (arith, from.1, less))

  deeper_apart : (limit : ℕ) (s t : Site) → s ≡ site → IsIn next 0 (suc next) limit t → s.unit ≡ t.unit → s.index ≡ t.index → ⊥
  deeper_apart limit s t same (inl at) same_unit same_index = let here : s.unit ≡ site.unit = ap (λ (x : Site). x.unit) same in omega (arith, here, later, at.0, same_unit)
  deeper_apart limit s t same (inr from) same_unit same_index = let here : s.unit ≡ site.unit = ap (λ (x : Site). x.unit) same in omega (arith, here, later, from.0, same_unit)

  callee_apart : (o : Option ℕ) → AllByRecursion (HasSite (IsAt site next (next + length (with_callee o).units))) (with_callee o).units × AllApart (with_callee o).units
  callee_apart None = (tt, tt)
  callee_apart (Some callee) =
      let within = expanded_by (inlined_at funcs depth) funcs callee next in
      let first = unit_of funcs callee (Some site) in
      let rest = from_apart (inlined_at funcs depth) apart next (suc next) 0 (body_of funcs callee) (omega arith) in
      let limit = suc next + length within.units in
      let all = next + suc (length within.units) in
      let here : HasSite (λ s. s ≡ site) first = (site, refl, refl) in (
        ((site, refl, inl refl), sites_weaker (IsIn next 0 (suc next) limit) (IsAt site next all) within.units (deeper_at limit all (omega arith) (omega arith)) rest.0),
        (
          all_weaker (HasSite (IsIn next 0 (suc next) limit)) (IsApart first) within.units (λ v is. apart_by (λ s. s ≡ site) (IsIn next 0 (suc next) limit) (deeper_apart limit) first v here is) rest.0,
          rest.1,
        ),
      )

-- What is added where calls are inlined to any depth is apart.
inlined_apart : (funcs : List Func) (depth : ℕ) → AddsApart (inlined_at funcs depth)
inlined_apart funcs zero next site op later = (tt, tt)
inlined_apart funcs (suc depth) next site op later = callee_apart funcs depth next site later (inlined_apart funcs depth) (inline_callee funcs op)

layout_apart : (funcs : List Func) (depth number : ℕ) → AllApart (layout_to funcs depth number).units
layout_apart funcs depth number =
    let rest = from_apart (inlined_at funcs depth) (inlined_apart funcs depth) 0 1 0 (body_of funcs number) (omega arith) in
    (all_weaker _ (IsApart (unit_of funcs number None)) (expanded_by (inlined_at funcs depth) funcs number 0).units (λ v is s t none t_is same_unit same_index. absurd (cc none)) rest.0, rest.1)

-- the one of these that has this number
unit_at : (P : CodeUnit → Type 0) (units : List CodeUnit) (number : ℕ) (site : Site) → AllByRecursion P units → site_of units number ≡ Some site → (u : CodeUnit) × P u × (u.parent ≡ Some site)
unit_at P [] number site all is = absurd (grind arith)
unit_at P (u ∷ units) zero site all is = (u, all.0, is)
unit_at P (u ∷ units) (suc number) site all is = unit_at P units number site all.1 is

numbers_same : (units : List CodeUnit) (one other : ℕ) (s t : Site) → AllApart units → site_of units one ≡ Some s → site_of units other ≡ Some t → s.unit ≡ t.unit → s.index ≡ t.index → one ≡ other
numbers_same [] one other s t apart s_is t_is same_unit same_index = absurd (grind arith)
numbers_same (u ∷ units) zero zero s t apart s_is t_is same_unit same_index = refl
numbers_same (u ∷ units) zero (suc other) s t apart s_is t_is same_unit same_index =
    let v = unit_at (IsApart u) units other t apart.0 t_is in absurd (v.1 s t s_is v.2 same_unit same_index)
numbers_same (u ∷ units) (suc one) zero s t apart s_is t_is same_unit same_index =
    let v = unit_at (IsApart u) units one s apart.0 s_is in absurd (v.1 t s t_is v.2 (sym same_unit) (sym same_index))
numbers_same (u ∷ units) (suc one) (suc other) s t apart s_is t_is same_unit same_index = ap suc (numbers_same units one other s t apart.1 s_is t_is same_unit same_index)

-- Units that were inlined at the same instruction of the same unit are the same.
pub units_apart : (funcs : List Func) (name : CodeName) (one other : ℕ) (s t : Site) → site_of (layout_of funcs name).units one ≡ Some s → site_of (layout_of funcs name).units other ≡ Some t
    → s.unit ≡ t.unit → s.index ≡ t.index → one ≡ other
unfolding layout_of
units_apart funcs name one other s t s_is t_is same_unit same_index =
    numbers_same (layout_to funcs (depth_of name.kind) name.func.0).units one other s t (layout_apart funcs (depth_of name.kind) name.func.0) s_is t_is same_unit same_index
