-- Code objects that come and go: no other is lost.
use Rattle.std.proofs.Common.{◌≡◌, ℕ, ◌+◌, ◌*◌, ◌≤◌, List, [], ◌∷◌, ◌++◌, length, ◌⊎◌, inl, inr, refl, ap, ap₂, ◌∙◌, sym, subst, arith}
use Rattle.std.proofs.lemmas.Bool.{cond_both, cond-true, cond-false, eqb-true, eq-eqb, ne_eqb, and_parts, and_from}
use Rattle.std.proofs.lemmas.Bool.Decides.{nat_tests}
use Rattle.std.specs.Prelude.{Bool, true, false, not, cond, filter, Option, Some, None, option_map, ◌==◌, ◌&&◌, nat_lt}
use Rattle.code_objects.specs.declared.name.CodeKind.{CodeKind}
use Rattle.code_objects.specs.declared.name.CodeKind.TheVariants.{Plain, Optimised}
use Rattle.code_objects.specs.Laws.{CreatingKeepsCode, DeletingKeepsCode, CodeHasOneSpace, EventsAddUp, NewCodeMovesNone}
use Rattle.code_space.specs.Space.{Fits, IsCodeRange, inserted, without_range as without_space}
use Rattle.code_objects.proofs.Finding.{all_but, found_has}
use Rattle.std.specs.List.{AllByRecursion}
use Rattle.code_event.proofs.EachElement.{all_filtered, all_mapped, all_pushed}
use Rattle.code_event.specs.CodeMap.{meets, with_range, without_range, range_at, range_of, after_event, after_events, ranges}
use Rattle.code_event.specs.declared.event.CodeEvent.{CodeEvent}
use Rattle.code_event.specs.declared.event.CodeEvent.TheVariants.{Create, Delete}
use Rattle.code_event.specs.declared.code_map.Range.{Range}
use Rattle.code_objects.proofs.RangesFound.{found_starts, at_with, at_without, MeetsNone}
use Rattle.code_objects.proofs.Moving.{Starts, Layouts, IsOfCode}
use Rattle.code_objects.specs.Changes.{OthersStay, IsSpaceOf, same_kind, same_name, size_at, size_in, space_of, with_start}
use Rattle.code_objects.specs.CodeObjects.{CodeParts, IsCode, LieAt, start_at}
use Rattle.code_objects.specs.declared.name.CodeName.{CodeName}
use Rattle.code_space.specs.declared.range.CodeRange.{CodeRange}

after_both : (all : List Range) (events more : List CodeEvent) → after_events all (events ++ more) ≡ after_events (after_events all events) more
after_both all [] more = refl
after_both all (event ∷ events) more = after_both (after_event all event) events more

pub events_add_up : EventsAddUp
events_add_up old new events more lie follow = subst (LieAt new) (sym (after_both [] events more)) (follow (ranges events) lie)

pub same_kind_true : (a b : CodeKind) → same_kind a b ≡ true → a ≡ b
same_kind_true Plain Plain e = refl
same_kind_true Plain Optimised e = absurd (cc)
same_kind_true Optimised Plain e = absurd (cc)
same_kind_true Optimised Optimised e = refl

pub same_kind_itself : (a : CodeKind) → same_kind a a ≡ true
same_kind_itself Plain = refl
same_kind_itself Optimised = refl

pub same_name_true : (one other : CodeName) → same_name one other ≡ true → one ≡ other
same_name_true one other e =
    let both = and_parts (one.func.0 == other.func.0) (same_kind one.kind other.kind) e in
    ap₂ (λ f k. record { func = record { 0 = f }; kind = k }) (eqb-true one.func.0 other.func.0 both.0) (same_kind_true one.kind other.kind both.1)

pub same_name_itself : (name : CodeName) → same_name name name ≡ true
same_name_itself name = and_from (name.func.0 == name.func.0) (same_kind name.kind name.kind) (eq-eqb name.func.0 name.func.0 refl) (same_kind_itself name.kind)

-- the size that a space has at a start
span_case : (P : ℕ → ℕ → Type 0) (span : CodeRange) (spans : List CodeRange) (start size : ℕ) (b : Bool) → (span.start == start) ≡ b → P span.start span.size → (size_in spans start ≡ Some size → P start size)
    → cond b (Some span.size) (size_in spans start) ≡ Some size → P start size
span_case P span spans start size true e first rest is = let same : span.size ≡ size = grind arith in subst (P start) same (subst (λ s. P s span.size) (eqb-true span.start start e) first)
span_case P span spans start size false e first rest is = rest is

span_there : (P : ℕ → ℕ → Type 0) (spans : List CodeRange) (start size : ℕ) → AllByRecursion (λ span. P span.start span.size) spans → size_in spans start ≡ Some size → P start size
span_there P [] start size all is = absurd (grind arith)
span_there P (span ∷ spans) start size all is = span_case P span spans start size (span.start == start) refl all.0 (span_there P spans start size all.1) is

fits_apart : (start size other_start other_size : ℕ) → (start + size ≤ other_start) ⊎ (other_start + other_size ≤ start) → (nat_lt other_start (start + size) && nat_lt start (other_start + other_size)) ≡ false
fits_apart start size other_start other_size (inl before) = grind (arith, nat_tests)
fits_apart start size other_start other_size (inr above) = grind (arith, nat_tests)

no_range : (o : Option Range) → ((range : Range) → o ≡ Some range → ⊥) → o ≡ None
no_range None none = refl
no_range (Some r) none = absurd (none r refl)

module _ (layouts : Layouts) (starts : Starts) (all : List Range) (spans : List CodeRange) (name : CodeName) (start : ℕ)
    (code : IsCode layouts starts all) (space : IsSpaceOf all spans) (some : 1 ≤ length (layouts name).slots) (are_some : AllByRecursion (λ span. 1 ≤ span.size) spans)
    (fits : Fits spans (4 * length (layouts name).slots) start) (none : starts name ≡ None) where
  abbrev new : Range
  new = range_of start (layouts name)

  size_there : (at : ℕ) (range : Range) → range_at all at ≡ Some range → size_in spans at ≡ Some range.size
  size_there at range found = sym (space at) ∙ ap (option_map (λ (r : Range). r.size)) found

  apart : MeetsNone all new
  apart at range found =
      let begins = found_starts all at range found in
      let either : (start + 4 * length (layouts name).slots ≤ range.start) ⊎ (range.start + range.size ≤ start) =
      subst (λ s. (start + 4 * length (layouts name).slots ≤ s) ⊎ (s + range.size ≤ start)) (sym begins)
      (span_there (λ s n. (start + 4 * length (layouts name).slots ≤ s) ⊎ (s + n ≤ start)) spans at range.size fits (size_there at range found)) in
      fits_apart start (4 * length (layouts name).slots) range.start range.size either

  free : range_at all start ≡ None
  free = no_range (range_at all start) (λ range found.
      let size = size_there start range found in
      let positive : 1 ≤ range.size = span_there (λ s n. 1 ≤ n) spans start range.size are_some size in
      elim (span_there (λ s n. (start + 4 * length (layouts name).slots ≤ s) ⊎ (s + n ≤ start)) spans start range.size fits size) [
        | inl before ↦ absurd (omega (arith, before, some))
        | inr above ↦ absurd (omega (arith, above, positive))
      ])

  at_after : (at : ℕ) → range_at (with_range all new) at ≡ cond (start == at) (Some new) (range_at all at)
  at_after at = at_with all new at apart free

  not_there : (other : CodeName) (at : ℕ) → starts other ≡ Some at → start ≡ at → ⊥
  not_there other at is same = let no : None ≡ Some (range_of at (layouts other)) = sym free ∙ ap (range_at all) same ∙ code.there other at is in absurd (grind arith)

  there_case : (other : CodeName) (at : ℕ) (b : Bool) → same_name name other ≡ b → cond b (Some start) (starts other) ≡ Some at → range_at (with_range all new) at ≡ Some (range_of at (layouts other))
  there_case other at true e is =
      let same : start ≡ at = grind arith in
      subst (λ n. range_at (with_range all new) n ≡ Some (range_of n (layouts other))) same
      (at_after start ∙ cond-true (start == start) _ _ (eq-eqb start start refl) ∙ ap (λ n. Some (range_of start (layouts n))) (same_name_true name other e))
  there_case other at false e is = at_after at ∙ cond-false (start == at) _ _ (ne_eqb start at (not_there other at is)) ∙ code.there other at is

  only_old : (range : Range) → IsOfCode layouts starts range → IsOfCode layouts (with_start starts name (Some start)) range
  only_old range is = (is.0, cond-false (same_name name is.0) (Some start) (starts is.0) (other_name (same_name name is.0) refl) ∙ is.1, is.2)
    where
      other_name : (b : Bool) → same_name name is.0 ≡ b → same_name name is.0 ≡ false
      other_name true e = let both : None ≡ Some range.start = sym none ∙ ap starts (same_name_true name is.0 e) ∙ is.1 in absurd (grind arith)
      other_name false e = e

  apart_case : (one other : CodeName) (at : ℕ) (b c : Bool) → same_name name one ≡ b → same_name name other ≡ c → cond b (Some start) (starts one) ≡ Some at → cond c (Some start) (starts other) ≡ Some at → one ≡ other
  apart_case one other at true true e f is is_other = sym (same_name_true name one e) ∙ same_name_true name other f
  apart_case one other at true false e f is is_other = let same : start ≡ at = grind arith in absurd (not_there other at is_other same)
  apart_case one other at false true e f is is_other = let same : start ≡ at = grind arith in absurd (not_there one at is same)
  apart_case one other at false false e f is is_other = code.apart one other at is is_other

  created : IsCode layouts (with_start starts name (Some start)) (after_event all (Create start (layouts name)))
  created = record {
    there = λ other at is. there_case other at (same_name name other) refl is;
    only = all_pushed (IsOfCode layouts (with_start starts name (Some start))) (filter (λ r. not (meets r new)) all) new
        (all_filtered (IsOfCode layouts (with_start starts name (Some start))) (λ r. not (meets r new)) all
        (all_mapped (IsOfCode layouts starts) (IsOfCode layouts (with_start starts name (Some start))) all only_old code.only))
        (name, cond-true (same_name name name) (Some start) (starts name) (same_name_itself name), refl);
    apart = λ one other at is is_other. apart_case one other at (same_name name one) (same_name name other) refl refl is is_other;
  }

  sizes_created : (other : ℕ) → size_at (after_event all (Create start (layouts name))) other ≡ cond (start == other) (Some (4 * length (layouts name).slots)) (size_in spans other)
  sizes_created other = ap (option_map (λ (r : Range). r.size)) (at_after other) ∙ size_case (start == other) ∙ ap (cond (start == other) (Some (4 * length (layouts name).slots))) (space other)
    where
      size_case : (b : Bool) → option_map (λ (r : Range). r.size) (cond b (Some new) (range_at all other)) ≡ cond b (Some (4 * length (layouts name).slots)) (size_at all other)
      size_case true = refl
      size_case false = refl

module _ (layouts : Layouts) (starts : Starts) (all : List Range) (spans : List CodeRange) (name : CodeName) (start : ℕ)
    (code : IsCode layouts starts all) (space : IsSpaceOf all spans) (is : starts name ≡ Some start) where
  gone_case : (other : CodeName) (at : ℕ) (b : Bool) → same_name name other ≡ b → cond b None (starts other) ≡ Some at → (starts other ≡ Some at) × (start ≡ at → ⊥)
  gone_case other at true e is_other = absurd (grind arith)
  gone_case other at false e is_other = (
    is_other,
    λ same.
        let one : name ≡ other = code.apart name other at (is ∙ ap (λ n. Some n) same) is_other in
        let yes : same_name name other ≡ true = ap (same_name name) (sym one) ∙ same_name_itself name in
        let both : true ≡ false = sym yes ∙ e in absurd (cc),
  )

  gone_there : (other : CodeName) (at : ℕ) → cond (same_name name other) None (starts other) ≡ Some at → range_at (without_range all start) at ≡ Some (range_of at (layouts other))
  gone_there other at is_other =
      let other_is = gone_case other at (same_name name other) refl is_other in
      at_without all start at ∙ cond-false (start == at) _ _ (ne_eqb start at other_is.1) ∙ code.there other at other_is.0

  kept_name : (range : Range) → IsOfCode layouts starts range → not (range.start == start) ≡ true → IsOfCode layouts (with_start starts name None) range
  kept_name range of_code other = (of_code.0, cond-false (same_name name of_code.0) None (starts of_code.0) (other_name (same_name name of_code.0) refl) ∙ of_code.1, of_code.2)
    where
      other_name : (b : Bool) → same_name name of_code.0 ≡ b → same_name name of_code.0 ≡ false
      other_name true e =
          let both : Some start ≡ Some range.start = sym is ∙ ap starts (same_name_true name of_code.0 e) ∙ of_code.1 in
          let same : start ≡ range.start = grind arith in absurd (grind (arith, nat_tests))
      other_name false e = e

  deleted : IsCode layouts (with_start starts name None) (after_event all (Delete start))
  deleted = record {
    there = gone_there;
    only = all_but (IsOfCode layouts starts) (IsOfCode layouts (with_start starts name None)) (λ r. not (r.start == start)) all code.only kept_name;
    apart = λ one other at is_one is_other. code.apart one other at (gone_case one at (same_name name one) refl is_one).0 (gone_case other at (same_name name other) refl is_other).0;
  }

  sizes_deleted : (other : ℕ) → size_at (after_event all (Delete start)) other ≡ cond (start == other) None (size_in spans other)
  sizes_deleted other = ap (option_map (λ (r : Range). r.size)) (at_without all start other) ∙ size_case (start == other) ∙ ap (cond (start == other) None) (space other)
    where
      size_case : (b : Bool) → option_map (λ (r : Range). r.size) (cond b None (range_at all other)) ≡ cond b None (size_at all other)
      size_case true = refl
      size_case false = refl

-- ---- the sizes of a space

inserted_case : (new range : CodeRange) (at : ℕ) (rest : Option ℕ) (b c d : Bool) → (range.start == at) ≡ b → (new.start == at) ≡ c → (range.start == new.start) ≡ d → d ≡ false
    → cond b (Some range.size) (cond c (Some new.size) rest) ≡ cond c (Some new.size) (cond b (Some range.size) rest)
inserted_case new range at rest true true d e f g other = absurd (grind (arith, nat_tests))
inserted_case new range at rest true false d e f g other = refl
inserted_case new range at rest false c d e f g other = refl

not_first : (b : Bool) (size : ℕ) (rest : Option ℕ) → cond b (Some size) rest ≡ None → b ≡ false
not_first true size rest none = absurd (grind arith)
not_first false size rest none = refl

not_later : (b : Bool) (size : ℕ) (rest : Option ℕ) → cond b (Some size) rest ≡ None → rest ≡ None
not_later true size rest none = absurd (grind arith)
not_later false size rest none = none

size_in-inserted : (spans : List CodeRange) (new : CodeRange) (at : ℕ) → size_in spans new.start ≡ None → size_in (inserted spans new) at ≡ cond (new.start == at) (Some new.size) (size_in spans at)
size_in-inserted [] added at none = refl
size_in-inserted (span ∷ spans) added at none =
    cond_both (nat_lt added.start span.start) (added ∷ span ∷ spans) (span ∷ inserted spans added) (λ all. size_in all at ≡ cond (added.start == at) (Some added.size) (size_in (span ∷ spans) at))
    (λ before. refl)
    (λ after. ap (cond (span.start == at) (Some span.size)) (size_in-inserted spans added at (not_later (span.start == added.start) span.size (size_in spans added.start) none))
    ∙ inserted_case added span at (size_in spans at) (span.start == at) (added.start == at) (span.start == added.start) refl refl refl (not_first (span.start == added.start) span.size (size_in spans added.start) none))

without_case : (span : CodeRange) (rest : List CodeRange) (old : Option ℕ) (start at : ℕ) (b c d : Bool) → (span.start == start) ≡ b → (span.start == at) ≡ c → (start == at) ≡ d → size_in rest at ≡ cond d None old
    → size_in (cond (not b) (span ∷ rest) rest) at ≡ cond d None (cond c (Some span.size) old)
without_case span rest old start at true true true e f g is = is
without_case span rest old start at true true false e f g is = absurd (grind (arith, nat_tests))
without_case span rest old start at true false d e f g is = is
without_case span rest old start at false true true e f g is = absurd (grind (arith, nat_tests))
without_case span rest old start at false true false e f g is = ap (λ b. cond b (Some span.size) (size_in rest at)) f
without_case span rest old start at false false d e f g is = ap (λ b. cond b (Some span.size) (size_in rest at)) f ∙ is

either_way : (b : Bool) (o : Option ℕ) → o ≡ cond b o o
either_way true o = refl
either_way false o = refl

size_in-without : (spans : List CodeRange) (start at : ℕ) → size_in (without_space spans start) at ≡ cond (start == at) None (size_in spans at)
size_in-without [] start at = either_way (start == at) None
size_in-without (span ∷ spans) start at =
    without_case span (without_space spans start) (size_in spans at) start at (span.start == start) (span.start == at) (start == at) refl refl refl (size_in-without spans start at)

-- each range of a space has a size
are_some : (spans : List CodeRange) → AllByRecursion IsCodeRange spans → AllByRecursion (λ span. 1 ≤ span.size) spans
are_some spans each = all_mapped IsCodeRange (λ span. 1 ≤ span.size) spans (λ span is. let least = is.size.least in omega (arith, least)) each

pub creating_keeps_code : CreatingKeepsCode
creating_keeps_code layouts starts all spans name start stored space none some fits =
    let each = are_some spans space.each in
    let nowhere : size_in spans start ≡ None = sym (stored.sizes start) ∙ ap (option_map (λ (r : Range). r.size)) (free layouts starts all spans name start stored.code stored.sizes some each fits none) in
    record {
      code = created layouts starts all spans name start stored.code stored.sizes some each fits none;
      sizes = λ at.
          sizes_created layouts starts all spans name start stored.code stored.sizes some each fits none at
          ∙ sym (size_in-inserted spans (space_of start (layouts name)) at nowhere);
    }

pub deleting_keeps_code : DeletingKeepsCode
deleting_keeps_code layouts starts all spans name start stored is = record {
  code = deleted layouts starts all spans name start stored.code stored.sizes is;
  sizes = λ at. sizes_deleted layouts starts all spans name start stored.code stored.sizes is at ∙ sym (size_in-without spans start at);
}

-- ---- the ranges of the same code

some_range : (layouts : Layouts) (starts : Starts) (ranges others : List Range) (start : ℕ) (one other : Option Range) → range_at ranges start ≡ one → range_at others start ≡ other
    → IsCode layouts starts ranges → IsCode layouts starts others → one ≡ other
some_range layouts starts ranges others start None None is is_other code code_other = refl
some_range layouts starts ranges others start (Some range) other is is_other code code_other =
    let of_code = found_has (λ r. r.start == start) (IsOfCode layouts starts) ranges range code.only is in
    let begins : range.start ≡ start = found_starts ranges start range is in
    let there : range_at others start ≡ Some (range_of start (layouts of_code.0)) = code_other.there of_code.0 start (of_code.1 ∙ ap (λ n. Some n) begins) in
    ap (λ r. Some r) (of_code.2 ∙ ap (λ n. range_of n (layouts of_code.0)) begins) ∙ sym there ∙ is_other
some_range layouts starts ranges others start None (Some range) is is_other code code_other =
    let of_code = found_has (λ r. r.start == start) (IsOfCode layouts starts) others range code_other.only is_other in
    let begins : range.start ≡ start = found_starts others start range is_other in
    let there : range_at ranges start ≡ Some (range_of start (layouts of_code.0)) = code.there of_code.0 start (of_code.1 ∙ ap (λ n. Some n) begins) in
    let both : None ≡ Some (range_of start (layouts of_code.0)) = sym is ∙ there in absurd (grind arith)

pub code_has_one_space : CodeHasOneSpace
code_has_one_space layouts starts ranges others spans stored code = record {
  code = code;
  sizes = λ start.
      ap (option_map (λ (r : Range). r.size)) (some_range layouts starts others ranges start (range_at others start) (range_at ranges start) refl refl code stored.code)
      ∙ stored.sizes start;
}

-- ---- code that stays

other_stays : (old new : CodeParts) (name other : CodeName) (start : ℕ) (b : Bool) → same_name name other ≡ b → start_at old.starts name ≡ None → OthersStay old new name
    → start_at old.starts other ≡ Some start → start_at new.starts other ≡ Some start
other_stays old new name other start true same none others is =
    let both : None ≡ Some start = sym none ∙ ap (start_at old.starts) (same_name_true name other same) ∙ is in absurd (grind arith)
other_stays old new name other start false differ none others is = others other differ ∙ is

pub new_code_moves_none : NewCodeMovesNone
new_code_moves_none old now name None sure others other start is = ap (λ (p : CodeParts). start_at p.starts other) sure.1 ∙ is
new_code_moves_none old now name (Some event) creation others other start is = other_stays old now name other start (same_name name other) refl creation.none others is
