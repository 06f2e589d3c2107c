-- The code objects of a program, where one is created or freed, and where all are compacted.
use Rattle.std.proofs.Common.{◌≡◌, ℕ, suc, ◌+◌, ◌<◌, ◌≤◌, List, [], ◌∷◌, zero, length, map, replicate, refl, ap, ◌∙◌, sym, subst, arith}
use Rattle.std.proofs.lemmas.Bool.{cond_both, cond-true, cond-false, eqb-true}
use Rattle.std.specs.Prelude.{Bool, true, false, cond, Option, Some, None, option_map, is_some, IsSome, ◌==◌}
use Rattle.std.proofs.lemmas.Option.{slice_get_within}
use Rattle.std.specs.List.{slice_get, AllByRecursion}
use Rattle.std.specs.Option.{option_and_then}
use Rattle.guest_program.specs.declared.instr.Func.{Func}
use Rattle.guest_program.specs.declared.program.TheConstants.Program.{MAX_FUNCS}
use Rattle.code_event.specs.CodeMap.{after_event, after_events}
use Rattle.code_event.specs.Parts.{LayoutParts}
use Rattle.code_event.specs.declared.code_map.Range.{Range}
use Rattle.code_event.specs.declared.event.CodeEvent.{CodeEvent}
use Rattle.code_event.specs.declared.event.CodeEvent.TheVariants.{Create, Delete}
use Rattle.code_space.proofs.Inserting.{length-inserted}
use Rattle.code_space.specs.Compaction.{compacted, moves_between}
use Rattle.code_space.specs.Space.{Fits, IsCodeRange, IsSpace, inserted, range_at as space_at, without_range}
use Rattle.code_space.specs.declared.range.CodeMove.{CodeMove}
use Rattle.code_space.specs.declared.range.CodeRange.{CodeRange}
use Rattle.code_space.specs.declared.range.TheConstants.{FIRST_ADDRESS, MAX_RANGES}
use Rattle.code_objects.proofs.Codes.{length-with, length-moved, object_at-with, start_at-object, start_at-with, object_at-moved, start_at-moved, object_count-moved, object_count-with, object_count-few, object_at-none, object_count-none}
use Rattle.code_objects.proofs.Keeping.{same_name_itself, same_name_true, creating_keeps_code, deleting_keeps_code, code_has_one_space}
use Rattle.code_objects.proofs.Sliding.{compacting_keeps_code}
use Rattle.code_objects.specs.Changes.{HasCode, IsStored, code_size, move_event, moved_by, same_name, size_in, space_of, with_moves, with_start}
use Rattle.code_objects.specs.CodeObjects.{CodeParts, IsCode, LieAt, layout_of, start_at}
use Rattle.code_objects.specs.Objects.{AreObjects, IsObject, ArePlaces, object_at, object_in, no_code, start_of, starts_of, with_object, object_moved, code_moved, count_of, object_count}
use Rattle.code_objects.specs.declared.func_code.FuncCode.{FuncCode}
use Rattle.code_objects.specs.declared.name.CodeName.{CodeName}
use Rattle.code_objects.specs.declared.object.CodeObject.{CodeObject}

-- what contracts see of the fields
abbrev pub parts_of : List Func → List FuncCode → List CodeRange → CodeParts
parts_of funcs codes space = record { funcs = funcs; starts = starts_of codes; space = space }

no_object : (o : Option CodeObject) → start_of o ≡ None → o ≡ None
no_object None none = refl
no_object (Some object) none = absurd (cc)

an_object : (o : Option CodeObject) (start : ℕ) → start_of o ≡ Some start → (object : CodeObject) × (o ≡ Some object)
an_object None start is = absurd (cc)
an_object (Some object) start is = (object, refl)

-- ranges of the code are those of the space
pub stored_at : (funcs : List Func) (codes : List FuncCode) (space : List CodeRange) (ranges : List Range) → AreObjects funcs codes space → LieAt (parts_of funcs codes space) ranges
    → IsStored (layout_of funcs) (start_at (starts_of codes)) ranges space
stored_at funcs codes space ranges are code = code_has_one_space (layout_of funcs) (start_at (starts_of codes)) are.ranges ranges space are.stored code

-- ---- one is created

module _ (funcs : List Func) (codes : List FuncCode) (space : List CodeRange) (name : CodeName) (are : AreObjects funcs codes space) (within : name.func.0 < length funcs)
    (none : start_at (starts_of codes) name ≡ None) where
  pub in_codes : name.func.0 < length codes
  in_codes = let same = are.each_func in omega (arith, within, same)

  not_there : object_at codes name ≡ None
  not_there = no_object (object_at codes name) (sym (start_at-object codes name) ∙ none)

  one_more : (object : CodeObject) → object_count (with_object codes name (Some object)) ≡ suc (object_count codes)
  one_more object =
      let more = object_count-with codes name.kind name.func.0 (Some object) in_codes in
      let zero : count_of (object_at codes name) ≡ 0 = ap count_of not_there in
      omega (arith, more, zero)

  pub room : CodeObject → length space < MAX_RANGES
  room object =
      let more = one_more object in
      let few = object_count-few (with_object codes name (Some object)) in
      let size : length (with_object codes name (Some object)) ≡ length codes = length-with name.kind (Some object) codes name.func.0 in
      let same = are.each_func in let funcs_few = are.few in let count = are.count in
      omega (arith, more, few, size, same, funcs_few, count)

  module _ (object : CodeObject) (is : IsObject funcs name object) (is_space : IsSpace space) (slots : 1 ≤ length object.layout.slots) (fits : Fits space (code_size object.layout) object.start) where
    created_starts : start_at (starts_of (with_object codes name (Some object))) ≡ with_start (start_at (starts_of codes)) name (Some object.start)
    created_starts = λ i. λ other. start_at-with codes name other (Some object) in_codes i

    created_at : (ranges : List Range) → IsStored (layout_of funcs) (start_at (starts_of codes)) ranges space
        → IsStored (layout_of funcs) (start_at (starts_of (with_object codes name (Some object)))) (after_event ranges (Create object.start object.layout)) (inserted space (space_of object.start object.layout))
    created_at ranges stored =
        let slots_there : 1 ≤ length (layout_of funcs name).slots = subst (λ (l : LayoutParts). 1 ≤ length l.slots) is.layout slots in
        let fits_there : Fits space (code_size (layout_of funcs name)) object.start = subst (λ l. Fits space (code_size l) object.start) is.layout fits in
        let all = creating_keeps_code (layout_of funcs) (start_at (starts_of codes)) ranges space name object.start stored is_space none slots_there fits_there in
        subst (λ (s : CodeName → Option ℕ). IsStored (layout_of funcs) s (after_event ranges (Create object.start object.layout)) (inserted space (space_of object.start object.layout))) (sym created_starts)
        (subst (λ l. IsStored (layout_of funcs) (with_start (start_at (starts_of codes)) name (Some object.start)) (after_event ranges (Create object.start l)) (inserted space (space_of object.start l))) (sym is.layout) all)

    created_case : (other : CodeName) (there : CodeObject) (b : Bool) → same_name name other ≡ b → cond b (Some object) (object_at codes other) ≡ Some there → IsObject funcs other there
    created_case other there true same found =
        let it : object ≡ there = cc in subst (IsObject funcs other) it (subst (λ n. IsObject funcs n object) (same_name_true name other same) is)
    created_case other there false same found = are.objects other there found

    pub created : AreObjects funcs (with_object codes name (Some object)) (inserted space (space_of object.start object.layout))
    created = record {
      few = are.few;
      each_func = length-with name.kind (Some object) codes name.func.0 ∙ are.each_func;
      objects = λ other there found. created_case other there (same_name name other) refl (sym (object_at-with codes name other (Some object) in_codes) ∙ found);
      ranges = after_event are.ranges (Create object.start object.layout);
      stored = created_at are.ranges are.stored;
      count = length-inserted space (space_of object.start object.layout) ∙ ap (λ n. suc n) are.count ∙ sym (one_more object);
    }

    pub created_follows : (ranges : List Range) → LieAt (parts_of funcs codes space) ranges
        → LieAt (parts_of funcs (with_object codes name (Some object)) (inserted space (space_of object.start object.layout))) (after_event ranges (Create object.start object.layout))
    created_follows ranges code = (created_at ranges (stored_at funcs codes space ranges are code)).code

-- ---- one is freed

one_less : (codes : List FuncCode) (name : CodeName) (o : Option CodeObject) (start : ℕ) → object_at codes name ≡ o → start_of o ≡ Some start → count_of (object_at codes name) ≡ 1
one_less codes name None start is some = absurd (cc)
one_less codes name (Some object) start is some = ap count_of is

space_case : (b : Bool) (range : CodeRange) (size : ℕ) (sizes : Option ℕ) (ranges : Option CodeRange) → (sizes ≡ Some size → IsSome ranges) → cond b (Some range.size) sizes ≡ Some size → IsSome (cond b (Some range) ranges)
space_case true range size sizes ranges later is = refl
space_case false range size sizes ranges later is = later is

space_there : (space : List CodeRange) (start size : ℕ) → size_in space start ≡ Some size → IsSome (space_at space start)
space_there [] start size is = absurd (cc)
space_there (range ∷ space) start size is = space_case (range.start == start) range size (size_in space start) (space_at space start) (space_there space start size) is

code_there : (f : FuncCode → Option CodeObject) (o : Option FuncCode) (object : CodeObject) → option_and_then f o ≡ Some object → (code : FuncCode) × (o ≡ Some code)
code_there f None object found = absurd (cc)
code_there f (Some code) object found = (code, refl)

module _ (funcs : List Func) (codes : List FuncCode) (space : List CodeRange) (name : CodeName) (start : ℕ) (are : AreObjects funcs codes space) (is : start_at (starts_of codes) name ≡ Some start) where
  -- the space has a range that starts where the code does
  pub range_there : IsSome (space_at space start)
  range_there =
      let size : size_in space start ≡ Some (code_size (layout_of funcs name)) =
      sym (are.stored.sizes start) ∙ ap (option_map (λ (r : Range). r.size)) (are.stored.code.there name start is) in
      space_there space start (code_size (layout_of funcs name)) size

  -- the function is in the program
  pub func_there : name.func.0 < length codes
  func_there =
      let object = an_object (object_at codes name) start (sym (start_at-object codes name) ∙ is) in
      let code = code_there (object_in name.kind) (slice_get codes name.func.0) object.0 object.1 in
      slice_get_within codes name.func.0 code.0 code.1

  freed_starts : start_at (starts_of (with_object codes name None)) ≡ with_start (start_at (starts_of codes)) name None
  freed_starts = λ i. λ other. start_at-with codes name other None func_there i

  freed_at : (ranges : List Range) → IsStored (layout_of funcs) (start_at (starts_of codes)) ranges space
      → IsStored (layout_of funcs) (start_at (starts_of (with_object codes name None))) (after_event ranges (Delete start)) (without_range space start)
  freed_at ranges stored =
      subst (λ (s : CodeName → Option ℕ). IsStored (layout_of funcs) s (after_event ranges (Delete start)) (without_range space start)) (sym freed_starts)
      (deleting_keeps_code (layout_of funcs) (start_at (starts_of codes)) ranges space name start stored is)

  freed_case : (other : CodeName) (there : CodeObject) (b : Bool) → cond b None (object_at codes other) ≡ Some there → IsObject funcs other there
  freed_case other there true found = absurd (cc)
  freed_case other there false found = are.objects other there found

  pub freed : length (without_range space start) + 1 ≡ length space → AreObjects funcs (with_object codes name None) (without_range space start)
  freed fewer =
      let less = object_count-with codes name.kind name.func.0 None func_there in
      let one = one_less codes name (object_at codes name) start refl (sym (start_at-object codes name) ∙ is) in
      let count = are.count in
      record {
        few = are.few;
        each_func = length-with name.kind None codes name.func.0 ∙ are.each_func;
        objects = λ other there found. freed_case other there (same_name name other) (sym (object_at-with codes name other None func_there) ∙ found);
        ranges = after_event are.ranges (Delete start);
        stored = freed_at are.ranges are.stored;
        count = omega (arith, less, one, count, fewer);
      }

  pub freed_follows : (ranges : List Range) → LieAt (parts_of funcs codes space) ranges → LieAt (parts_of funcs (with_object codes name None) (without_range space start)) (after_event ranges (Delete start))
  freed_follows ranges code = (freed_at ranges (stored_at funcs codes space ranges are code)).code

  pub none_left : start_at (starts_of (with_object codes name None)) name ≡ None
  none_left = start_at-with codes name name None func_there ∙ cond-true (same_name name name) None (start_at (starts_of codes) name) (same_name_itself name)

-- the starts of all others, where one is set or taken away
pub others_stay : (codes : List FuncCode) (name other : CodeName) (object : Option CodeObject) → name.func.0 < length codes → same_name name other ≡ false
    → start_at (starts_of (with_object codes name object)) other ≡ start_at (starts_of codes) other
others_stay codes name other object less differ = start_at-with codes name other object less ∙ cond-false (same_name name other) (start_of object) (start_at (starts_of codes) other) differ

pub one_there : (codes : List FuncCode) (name : CodeName) (object : CodeObject) → name.func.0 < length codes → start_at (starts_of (with_object codes name (Some object))) name ≡ Some object.start
one_there codes name object less = start_at-with codes name name (Some object) less ∙ cond-true (same_name name name) (Some object.start) (start_at (starts_of codes) name) (same_name_itself name)

-- ---- all are compacted

length-compacted : (low : ℕ) (space : List CodeRange) → length (compacted low space) ≡ length space
length-compacted low [] = refl
length-compacted low (range ∷ space) = ap (λ n. suc n) (length-compacted (low + range.size) space)

module _ (funcs : List Func) (codes : List FuncCode) (space : List CodeRange) (are : AreObjects funcs codes space) (is_space : IsSpace space) where
  abbrev all_moves : List CodeMove
  all_moves = moves_between space (compacted FIRST_ADDRESS space)

  moved_starts : start_at (starts_of (map (code_moved all_moves) codes)) ≡ with_moves (start_at (starts_of codes)) all_moves
  moved_starts = λ i. λ name. start_at-moved codes all_moves name i

  compacted_at : (ranges : List Range) → IsStored (layout_of funcs) (start_at (starts_of codes)) ranges space
      → IsStored (layout_of funcs) (start_at (starts_of (map (code_moved all_moves) codes))) (after_events ranges (map move_event all_moves)) (compacted FIRST_ADDRESS space)
  compacted_at ranges stored =
      subst (λ (s : CodeName → Option ℕ). IsStored (layout_of funcs) s (after_events ranges (map move_event all_moves)) (compacted FIRST_ADDRESS space)) (sym moved_starts)
      (compacting_keeps_code (layout_of funcs) (start_at (starts_of codes)) ranges space stored is_space)

  moved_case : (name : CodeName) (o : Option CodeObject) (there : CodeObject) → object_at codes name ≡ o → option_map (object_moved all_moves) o ≡ Some there → IsObject funcs name there
  moved_case name None there was found = absurd (cc)
  moved_case name (Some object) there was found =
      let old = are.objects name object was in
      let it : object_moved all_moves object ≡ there = cc in subst (IsObject funcs name) it (record { layout = old.layout; places = old.places })

  pub all_compacted : AreObjects funcs (map (code_moved all_moves) codes) (compacted FIRST_ADDRESS space)
  all_compacted = record {
    few = are.few;
    each_func = length-moved codes all_moves ∙ are.each_func;
    objects = λ name there found. moved_case name (object_at codes name) there refl (sym (object_at-moved codes all_moves name) ∙ found);
    ranges = after_events are.ranges (map move_event all_moves);
    stored = compacted_at are.ranges are.stored;
    count = length-compacted FIRST_ADDRESS space ∙ are.count ∙ sym (object_count-moved codes all_moves);
  }

  pub compacted_follows : (ranges : List Range) → LieAt (parts_of funcs codes space) ranges
      → LieAt (parts_of funcs (map (code_moved all_moves) codes) (compacted FIRST_ADDRESS space)) (after_events ranges (map move_event all_moves))
  compacted_follows ranges code = (compacted_at ranges (stored_at funcs codes space ranges are code)).code

-- ---- none are there

module _ (funcs : List Func) (few : length funcs ≤ MAX_FUNCS) where
  abbrev no_codes : List FuncCode
  no_codes = replicate (length funcs) no_code

  nowhere : (name : CodeName) → start_at (starts_of no_codes) name ≡ None
  nowhere name = start_at-object no_codes name ∙ ap start_of (object_at-none (length funcs) name)

  pub no_code_lies : LieAt (parts_of funcs no_codes []) []
  no_code_lies = record {
    there = λ name start is. let both : None ≡ Some start = sym (nowhere name) ∙ is in absurd (cc);
    only = tt;
    apart = λ one other start is_one is_other. let both : None ≡ Some start = sym (nowhere one) ∙ is_one in absurd (cc);
  }

  length-replicate : {X : Type 0} (n : ℕ) (x : X) → length (replicate n x) ≡ n
  length-replicate zero x = refl
  length-replicate (suc n) x = ap (λ m. suc m) (length-replicate n x)

  pub none_are : AreObjects funcs no_codes []
  none_are = record {
    few = few;
    each_func = length-replicate (length funcs) no_code;
    objects = λ name object found. let both : None ≡ Some object = sym (object_at-none (length funcs) name) ∙ found in absurd (cc);
    ranges = [];
    stored = record { code = no_code_lies; sizes = λ start. refl };
    count = sym (object_count-none (length funcs));
  }

-- ---- what contracts see of a change

-- code is of a function of the program
pub func_within : (funcs : List Func) (codes : List FuncCode) (space : List CodeRange) (now : CodeParts) (name : CodeName) → AreObjects funcs codes space → parts_of funcs codes space ≡ now
    → HasCode now name → name.func.0 < length now.funcs
func_within funcs codes space now name are view has =
    let start = some_start (start_at now.starts name) has in
    let within = func_there funcs codes space name start.0 are (subst (λ (p : CodeParts). start_at p.starts name ≡ Some start.0) (sym view) start.1) in
    let same = are.each_func in
    subst (λ (p : CodeParts). name.func.0 < length p.funcs) view (omega (arith, within, same))
  where
    some_start : (o : Option ℕ) → IsSome o → (start : ℕ) × (o ≡ Some start)
    some_start None some = absurd (cc)
    some_start (Some start) some = (start, refl)

-- the layout of an object that is looked up
layout_case : (funcs : List Func) (codes : List FuncCode) (space : List CodeRange) (name : CodeName) (object : Option CodeObject) → AreObjects funcs codes space → object_at codes name ≡ object
    → option_map (λ (o : CodeObject). o.layout) object ≡ option_map (λ (start : ℕ). layout_of funcs name) (start_of object)
layout_case funcs codes space name None are is = refl
layout_case funcs codes space name (Some object) are is = ap (λ l. Some l) (are.objects name object is).layout

pub layout_found : (funcs : List Func) (codes held : List FuncCode) (space : List CodeRange) (now : CodeParts) (name : CodeName) (object : Option CodeObject) → AreObjects funcs codes space
    → parts_of funcs codes space ≡ now → held ≡ codes → object ≡ object_at held name
    → option_map (λ (o : CodeObject). o.layout) object ≡ option_map (λ (start : ℕ). layout_of now.funcs name) (start_at now.starts name)
layout_found funcs codes held space now name object are view same is =
    let found : object_at codes name ≡ object = sym (is ∙ ap (λ cs. object_at cs name) same) in
    layout_case funcs codes space name object are found
    ∙ ap (option_map (λ (start : ℕ). layout_of funcs name)) (sym (start_at-object codes name ∙ ap start_of found))
    ∙ ap (λ (p : CodeParts). option_map (λ (start : ℕ). layout_of p.funcs name) (start_at p.starts name)) view

-- the fields after a change that sets or takes away the object of a name
pub record IsChanged (funcs : List Func) (now : CodeParts) (name : CodeName) (event : CodeEvent) (start : Option ℕ) (codes : List FuncCode) (space : List CodeRange) : Type 0 where
  pub objects : AreObjects funcs codes space
  pub start_is : start_at (starts_of codes) name ≡ start
  pub others : (other : CodeName) → same_name name other ≡ false → start_at (starts_of codes) other ≡ start_at now.starts other
  pub ranges : (ranges : List Range) → LieAt now ranges → IsCode (layout_of funcs) (start_at (starts_of codes)) (after_event ranges event)

pub creation : (funcs : List Func) (codes new : List FuncCode) (space new_space : List CodeRange) (now : CodeParts) (name : CodeName) (start : ℕ) (object : CodeObject) (copy : LayoutParts)
    → AreObjects funcs codes space → parts_of funcs codes space ≡ now → name.func.0 < length now.funcs → start_at now.starts name ≡ None → object.layout ≡ layout_of now.funcs name → ArePlaces object.places object.layout
    → IsSpace space → 1 ≤ length object.layout.slots → Fits space (code_size object.layout) object.start → copy ≡ object.layout
    → new ≡ with_object codes name (Some object) → new_space ≡ inserted space (space_of object.start object.layout)
    → IsChanged funcs now name (Create object.start copy) (Some object.start) new new_space
creation funcs codes new space new_space now name start object copy are view within_now none_now layout places is_space slots fits copied new_is space_is =
    let within = subst (λ (p : CodeParts). name.func.0 < length p.funcs) (sym view) within_now in
    let none = subst (λ (p : CodeParts). start_at p.starts name ≡ None) (sym view) none_now in
    let is : IsObject funcs name object = record { layout = subst (λ (p : CodeParts). object.layout ≡ layout_of p.funcs name) (sym view) layout; places = places } in
    let there : name.func.0 < length codes = in_codes funcs codes space name are within none in
    let after : IsChanged funcs now name (Create object.start object.layout) (Some object.start) (with_object codes name (Some object)) (inserted space (space_of object.start object.layout)) = record {
      objects = created funcs codes space name are within none object is is_space slots fits;
      start_is = one_there codes name object there;
      others = λ other differ. others_stay codes name other (Some object) there differ ∙ ap (λ (p : CodeParts). start_at p.starts other) view;
      ranges = λ ranges code. created_follows funcs codes space name are within none object is is_space slots fits ranges (subst (λ p. LieAt p ranges) (sym view) code);
    } in
    subst (λ cs. IsChanged funcs now name (Create object.start copy) (Some object.start) cs new_space) (sym new_is)
    (subst (IsChanged funcs now name (Create object.start copy) (Some object.start) (with_object codes name (Some object))) (sym space_is)
    (subst (λ l. IsChanged funcs now name (Create object.start l) (Some object.start) (with_object codes name (Some object)) (inserted space (space_of object.start object.layout))) (sym copied) after))

pub deletion : (funcs : List Func) (codes new : List FuncCode) (space new_space : List CodeRange) (now : CodeParts) (name : CodeName) (start : ℕ)
    → AreObjects funcs codes space → parts_of funcs codes space ≡ now → Some start ≡ start_at now.starts name
    → new ≡ with_object codes name None → new_space ≡ without_range space start → length new_space + 1 ≡ length space
    → IsChanged funcs now name (Delete start) None new new_space
deletion funcs codes new space new_space now name start are view start_now new_is space_is fewer =
    let is = subst (λ (p : CodeParts). start_at p.starts name ≡ Some start) (sym view) (sym start_now) in
    let there : name.func.0 < length codes = func_there funcs codes space name start are is in
    let after : IsChanged funcs now name (Delete start) None (with_object codes name None) (without_range space start) = record {
      objects = freed funcs codes space name start are is (subst (λ sp. length sp + 1 ≡ length space) space_is fewer);
      start_is = none_left funcs codes space name start are is;
      others = λ other differ. others_stay codes name other None there differ ∙ ap (λ (p : CodeParts). start_at p.starts other) view;
      ranges = λ ranges code. freed_follows funcs codes space name start are is ranges (subst (λ p. LieAt p ranges) (sym view) code);
    } in
    subst (λ cs. IsChanged funcs now name (Delete start) None cs new_space) (sym new_is)
    (subst (IsChanged funcs now name (Delete start) None (with_object codes name None)) (sym space_is) after)

-- the fields after a compaction
pub record IsCompacted (funcs : List Func) (now : CodeParts) (events : List CodeEvent) (codes : List FuncCode) (space : List CodeRange) : Type 0 where
  pub objects : AreObjects funcs codes space
  pub starts : (name : CodeName) → start_at (starts_of codes) name ≡ with_moves (start_at now.starts) (moves_between now.space (compacted FIRST_ADDRESS now.space)) name
  pub there : (name : CodeName) → is_some (start_at (starts_of codes) name) ≡ is_some (start_at now.starts name)
  pub ranges : (ranges : List Range) → LieAt now ranges → IsCode (layout_of funcs) (start_at (starts_of codes)) (after_events ranges events)

some_moved : (moves : List CodeMove) (o : Option ℕ) → is_some (option_map (moved_by moves) o) ≡ is_some o
some_moved moves None = refl
some_moved moves (Some start) = refl

pub compaction : (funcs : List Func) (codes new : List FuncCode) (space new_space : List CodeRange) (now : CodeParts) (events : List CodeEvent)
    → AreObjects funcs codes space → parts_of funcs codes space ≡ now → IsSpace space
    → new ≡ map (code_moved (moves_between space (compacted FIRST_ADDRESS space))) codes → new_space ≡ compacted FIRST_ADDRESS space
    → events ≡ map move_event (moves_between space (compacted FIRST_ADDRESS space))
    → IsCompacted funcs now events new new_space
compaction funcs codes new space new_space now events are view is_space new_is space_is events_are =
    let moves = moves_between space (compacted FIRST_ADDRESS space) in
    let after : IsCompacted funcs (parts_of funcs codes space) (map move_event moves) (map (code_moved moves) codes) (compacted FIRST_ADDRESS space) = record {
      objects = all_compacted funcs codes space are is_space;
      starts = λ name. start_at-moved codes moves name;
      there = λ name. ap is_some (start_at-moved codes moves name) ∙ some_moved moves (start_at (starts_of codes) name);
      ranges = λ ranges code. compacted_follows funcs codes space are is_space ranges code;
    } in
    subst (λ n. IsCompacted funcs n events new new_space) view
    (subst (λ es. IsCompacted funcs (parts_of funcs codes space) es new new_space) (sym events_are)
    (subst (λ cs. IsCompacted funcs (parts_of funcs codes space) (map move_event moves) cs new_space) (sym new_is)
    (subst (IsCompacted funcs (parts_of funcs codes space) (map move_event moves) (map (code_moved moves) codes)) (sym space_is) after)))

-- no more ranges move than there are
pub moves_few : (before after : List CodeRange) → length (moves_between before after) ≤ length before
moves_few [] after = omega arith
moves_few (old ∷ before) [] = omega arith
moves_few (old ∷ before) (new ∷ after) =
    let rest = moves_few before after in
    cond_both (old.start == new.start) (moves_between before after) (record { from = old.start; to = new.start } ∷ moves_between before after) (λ ms. length ms ≤ suc (length before))
    (λ stays. omega (arith, rest)) (λ goes. omega (arith, rest))

-- ---- code ends within the space

-- the first range of a space ends within it, or the rest of the space is looked at
range_ends : (range : CodeRange) (start size : ℕ) (rest : Option ℕ) → IsCodeRange range → (rest ≡ Some size → start + size ≤ 16781312) → (b : Bool) → (range.start == start) ≡ b
    → cond (range.start == start) (Some range.size) rest ≡ Some size → start + size ≤ 16781312
range_ends range start size rest rules others true here is =
    let found : Some range.size ≡ Some size = sym (cond-true (range.start == start) (Some range.size) rest here) ∙ is in
    let size_is : range.size ≡ size = cc found in
    let start_is : range.start ≡ start = eqb-true range.start start here in
    let within = rules.within in omega (arith, size_is, start_is, within)
range_ends range start size rest rules others false not_here is = others (sym (cond-false (range.start == start) (Some range.size) rest not_here) ∙ is)

size_ends : (space : List CodeRange) (start size : ℕ) → AllByRecursion IsCodeRange space → size_in space start ≡ Some size → start + size ≤ 16781312
size_ends [] start size each is = absurd (cc is)
size_ends (range ∷ space) start size each is = range_ends range start size (size_in space start) each.0 (size_ends space start size each.1) (range.start == start) refl is

-- the code with this name ends within the space
pub code_ends : (funcs : List Func) (codes : List FuncCode) (space : List CodeRange) (now : CodeParts) (name : CodeName) (start : ℕ) → AreObjects funcs codes space → parts_of funcs codes space ≡ now → IsSpace space
    → start_at now.starts name ≡ Some start → start + code_size (layout_of now.funcs name) ≤ 16781312
code_ends funcs codes space now name start are now_is rules is =
    subst (λ (p : CodeParts). start_at p.starts name ≡ Some start → start + code_size (layout_of p.funcs name) ≤ 16781312) now_is
    (λ here. size_ends space start (code_size (layout_of funcs name)) rules.each (sym (are.stored.sizes start) ∙ ap (option_map (λ (r : Range). r.size)) (are.stored.code.there name start here))) is
