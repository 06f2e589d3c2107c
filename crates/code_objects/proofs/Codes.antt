-- The code objects of functions, where one is set or taken away, and where all move.
use Rattle.std.proofs.Common.{◌≡◌, ℕ, zero, suc, ◌+◌, ◌*◌, ◌<◌, ◌≤◌, List, [], ◌∷◌, ◌++◌, length, take, drop, get_or, set, map, replicate, refl, ap, ap₂, ◌∙◌, sym, arith, append-nil}
use Rattle.std.proofs.lemmas.List.{take_all, drop_all}
use Rattle.std.proofs.lemmas.Bool.{eqb-true, eqb-false}
use Rattle.std.proofs.lemmas.Option.{slice_get-map}
use Rattle.std.specs.Prelude.{Bool, true, false, cond, Option, Some, None, option_map, ◌==◌, ◌&&◌}
use Rattle.std.specs.Option.{option_and_then}
use Rattle.std.specs.List.{slice_get}
use Rattle.code_space.specs.declared.range.CodeMove.{CodeMove}
use Rattle.code_objects.specs.Changes.{moved_by, same_kind, same_name, with_moves, with_start}
use Rattle.code_objects.specs.CodeObjects.{start_at, start_in}
use Rattle.code_objects.specs.Objects.{object_in, object_at, no_code, start_of, func_starts, starts_of, code_with, with_object_in, with_object, object_moved, code_moved, count_of, object_count}
use Rattle.code_objects.specs.declared.func_code.FuncCode.{FuncCode}
use Rattle.code_objects.specs.declared.name.CodeKind.{CodeKind}
use Rattle.code_objects.specs.declared.name.CodeKind.TheVariants.{Plain, Optimised}
use Rattle.code_objects.specs.declared.name.CodeName.{CodeName}
use Rattle.code_objects.specs.declared.object.CodeObject.{CodeObject}

-- ---- what a write leaves

set_with : (kind : CodeKind) (object : Option CodeObject) (codes : List FuncCode) (number : ℕ) (d : FuncCode) → number < length codes
    → set codes number (code_with kind object (get_or codes number d)) ≡ with_object_in kind object codes number
set_with kind object [] number d less = absurd (omega arith)
set_with kind object (code ∷ codes) zero d less = refl
set_with kind object (code ∷ codes) (suc number) d less = ap (λ cs. code ∷ cs) (set_with kind object codes number d (omega (arith, less)))

pub written : (codes : List FuncCode) (name : CodeName) (object : Option CodeObject) (number : ℕ) (old new : FuncCode) → number ≡ name.func.0 → name.func.0 < length codes
    → new ≡ code_with name.kind object (get_or codes number old) → set codes number new ≡ with_object codes name object
written codes name object number old new is less new_is =
    ap₂ (λ n (c : FuncCode). set codes n c) is (new_is ∙ ap (λ n. code_with name.kind object (get_or codes n old)) is)
    ∙ set_with name.kind object codes name.func.0 old less

pub length-with : (kind : CodeKind) (object : Option CodeObject) (codes : List FuncCode) (number : ℕ) → length (with_object_in kind object codes number) ≡ length codes
length-with kind object [] number = refl
length-with kind object (code ∷ codes) zero = refl
length-with kind object (code ∷ codes) (suc number) = ap (λ n. suc n) (length-with kind object codes number)

-- ---- the object with a name

with_same : (kind : CodeKind) (object : Option CodeObject) (codes : List FuncCode) (number : ℕ) → slice_get (with_object_in kind object codes number) number ≡ option_map (code_with kind object) (slice_get codes number)
with_same kind object [] number = refl
with_same kind object (code ∷ codes) zero = refl
with_same kind object (code ∷ codes) (suc number) = with_same kind object codes number

with_other : (kind : CodeKind) (object : Option CodeObject) (codes : List FuncCode) (number other : ℕ) → (number ≡ other → ⊥) → slice_get (with_object_in kind object codes number) other ≡ slice_get codes other
with_other kind object [] number other differ = refl
with_other kind object (code ∷ codes) zero zero differ = absurd (differ refl)
with_other kind object (code ∷ codes) zero (suc other) differ = refl
with_other kind object (code ∷ codes) (suc number) zero differ = refl
with_other kind object (code ∷ codes) (suc number) (suc other) differ = with_other kind object codes number other (λ same. differ (ap (λ n. suc n) same))

kind_set : (kind other : CodeKind) (object : Option CodeObject) (code : FuncCode) → object_in other (code_with kind object code) ≡ cond (same_kind kind other) object (object_in other code)
kind_set Plain Plain object code = refl
kind_set Plain Optimised object code = refl
kind_set Optimised Plain object code = refl
kind_set Optimised Optimised object code = refl

there : (codes : List FuncCode) (number : ℕ) → number < length codes → (code : FuncCode) × (slice_get codes number ≡ Some code)
there [] number less = absurd (omega arith)
there (code ∷ codes) zero less = (code, refl)
there (code ∷ codes) (suc number) less = there codes number (omega (arith, less))

set_case : (codes : List FuncCode) (name other : CodeName) (object : Option CodeObject) (b : Bool) → name.func.0 < length codes → (name.func.0 == other.func.0) ≡ b
    → object_at (with_object codes name object) other ≡ cond (b && same_kind name.kind other.kind) object (object_at codes other)
set_case codes name other object true less same =
    let number : name.func.0 ≡ other.func.0 = eqb-true name.func.0 other.func.0 same in
    let code = there codes name.func.0 less in
    let is : slice_get codes other.func.0 ≡ Some code.0 = ap (slice_get codes) (sym number) ∙ code.1 in
    ap (λ n. option_and_then (object_in other.kind) (slice_get (with_object codes name object) n)) (sym number)
    ∙ ap (option_and_then (object_in other.kind)) (with_same name.kind object codes name.func.0 ∙ ap (option_map (code_with name.kind object)) code.1)
    ∙ kind_set name.kind other.kind object code.0
    ∙ sym (ap (λ o. cond (same_kind name.kind other.kind) object (option_and_then (object_in other.kind) o)) is)
set_case codes name other object false less differ = ap (option_and_then (object_in other.kind)) (with_other name.kind object codes name.func.0 other.func.0 (eqb-false name.func.0 other.func.0 differ))

-- where an object is set, it has its name, and all others have theirs
pub object_at-with : (codes : List FuncCode) (name other : CodeName) (object : Option CodeObject) → name.func.0 < length codes
    → object_at (with_object codes name object) other ≡ cond (same_name name other) object (object_at codes other)
object_at-with codes name other object less = set_case codes name other object (name.func.0 == other.func.0) less refl

-- ---- where objects start

kind_starts : (kind : CodeKind) (code : Option FuncCode) → option_and_then (start_in kind) (option_map func_starts code) ≡ start_of (option_and_then (object_in kind) code)
kind_starts kind None = refl
kind_starts Plain (Some code) = refl
kind_starts Optimised (Some code) = refl

pub start_at-object : (codes : List FuncCode) (name : CodeName) → start_at (starts_of codes) name ≡ start_of (object_at codes name)
start_at-object codes name = ap (option_and_then (start_in name.kind)) (slice_get-map func_starts codes name.func.0) ∙ kind_starts name.kind (slice_get codes name.func.0)

start_if : (b : Bool) (one other : Option CodeObject) → start_of (cond b one other) ≡ cond b (start_of one) (start_of other)
start_if true one other = refl
start_if false one other = refl

pub start_at-with : (codes : List FuncCode) (name other : CodeName) (object : Option CodeObject) → name.func.0 < length codes
    → start_at (starts_of (with_object codes name object)) other ≡ with_start (start_at (starts_of codes)) name (start_of object) other
start_at-with codes name other object less =
    start_at-object (with_object codes name object) other ∙ ap start_of (object_at-with codes name other object less) ∙ start_if (same_name name other) object (object_at codes other)
    ∙ sym (ap (cond (same_name name other) (start_of object)) (start_at-object codes other))

-- ---- moves

kind_moved : (kind : CodeKind) (moves : List CodeMove) (code : Option FuncCode) → option_and_then (object_in kind) (option_map (code_moved moves) code) ≡ option_map (object_moved moves) (option_and_then (object_in kind) code)
kind_moved kind moves None = refl
kind_moved Plain moves (Some code) = refl
kind_moved Optimised moves (Some code) = refl

pub object_at-moved : (codes : List FuncCode) (moves : List CodeMove) (name : CodeName) → object_at (map (code_moved moves) codes) name ≡ option_map (object_moved moves) (object_at codes name)
object_at-moved codes moves name = ap (option_and_then (object_in name.kind)) (slice_get-map (code_moved moves) codes name.func.0) ∙ kind_moved name.kind moves (slice_get codes name.func.0)

start_moved : (moves : List CodeMove) (object : Option CodeObject) → start_of (option_map (object_moved moves) object) ≡ option_map (moved_by moves) (start_of object)
start_moved moves None = refl
start_moved moves (Some object) = refl

pub start_at-moved : (codes : List FuncCode) (moves : List CodeMove) (name : CodeName) → start_at (starts_of (map (code_moved moves) codes)) name ≡ with_moves (start_at (starts_of codes)) moves name
start_at-moved codes moves name =
    start_at-object (map (code_moved moves) codes) name ∙ ap start_of (object_at-moved codes moves name) ∙ start_moved moves (object_at codes name)
    ∙ sym (ap (option_map (moved_by moves)) (start_at-object codes name))

-- ---- numbers of objects

moved_one : (moves : List CodeMove) (object : Option CodeObject) → count_of (option_map (object_moved moves) object) ≡ count_of object
moved_one moves None = refl
moved_one moves (Some object) = refl

pub object_count-moved : (codes : List FuncCode) (moves : List CodeMove) → object_count (map (code_moved moves) codes) ≡ object_count codes
object_count-moved [] moves = refl
object_count-moved (code ∷ codes) moves =
    ap₂ (λ n m. n + m) (ap₂ (λ n m. n + m) (moved_one moves code.plain) (moved_one moves code.optimised)) (object_count-moved codes moves)

kind_count : (kind : CodeKind) (object : Option CodeObject) (code : FuncCode)
    → count_of (code_with kind object code).plain + count_of (code_with kind object code).optimised + count_of (object_in kind code) ≡ count_of code.plain + count_of code.optimised + count_of object
kind_count Plain object code = omega arith
kind_count Optimised object code = omega arith

pub object_count-with : (codes : List FuncCode) (kind : CodeKind) (number : ℕ) (object : Option CodeObject) → number < length codes
    → object_count (with_object_in kind object codes number) + count_of (option_and_then (object_in kind) (slice_get codes number)) ≡ object_count codes + count_of object
object_count-with [] kind number object less = absurd (omega arith)
object_count-with (code ∷ codes) kind zero object less = let one = kind_count kind object code in omega (arith, one)
object_count-with (code ∷ codes) kind (suc number) object less = let rest = object_count-with codes kind number object (omega (arith, less)) in omega (arith, rest)

one_at_most : (object : Option CodeObject) → count_of object ≤ 1
one_at_most None = omega arith
one_at_most (Some object) = omega arith

pub object_count-few : (codes : List FuncCode) → object_count codes ≤ 2 * length codes
object_count-few [] = omega arith
object_count-few (code ∷ codes) = let plain = one_at_most code.plain in let optimised = one_at_most code.optimised in let rest = object_count-few codes in omega (arith, plain, optimised, rest)

-- ---- functions without code

none_at : (kind : CodeKind) (count number : ℕ) → option_and_then (object_in kind) (slice_get (replicate count no_code) number) ≡ None
none_at kind zero number = refl
none_at Plain (suc count) zero = refl
none_at Optimised (suc count) zero = refl
none_at kind (suc count) (suc number) = none_at kind count number

pub object_at-none : (count : ℕ) (name : CodeName) → object_at (replicate count no_code) name ≡ None
object_at-none count name = none_at name.kind count name.func.0

pub object_count-none : (count : ℕ) → object_count (replicate count no_code) ≡ 0
object_count-none zero = refl
object_count-none (suc count) = let rest = object_count-none count in omega (arith, rest)

-- ---- a loop that changes one after the other

module _ {X : Type 0} (g : X → X) where
  changed_at : (xs : List X) (place : ℕ) (d : X) → place < length xs → get_or (map g (take place xs) ++ drop place xs) place d ≡ get_or xs place d
  changed_at [] place d less = absurd (omega arith)
  changed_at (x ∷ xs) zero d less = refl
  changed_at (x ∷ xs) (suc place) d less = changed_at xs place d (omega (arith, less))

  changed_more : (xs : List X) (place : ℕ) (d : X) → place < length xs → set (map g (take place xs) ++ drop place xs) place (g (get_or xs place d)) ≡ map g (take (suc place) xs) ++ drop (suc place) xs
  changed_more [] place d less = absurd (omega arith)
  changed_more (x ∷ xs) zero d less = refl
  changed_more (x ∷ xs) (suc place) d less = ap (λ ys. g x ∷ ys) (changed_more xs place d (omega (arith, less)))

  -- one element more has changed
  pub moved_more : (xs now : List X) (place next : ℕ) (item new : X) → now ≡ map g (take place xs) ++ drop place xs → place < length now → length now ≡ length xs
      → new ≡ g (get_or now place item) → next ≡ suc place → set now place new ≡ map g (take next xs) ++ drop next xs
  moved_more xs now place next item new is less size new_is next_is =
      let within : place < length xs = omega (arith, less, size) in
      ap₂ (λ cs n. set cs place n) is (new_is ∙ ap g (ap (λ cs. get_or cs place item) is ∙ changed_at xs place item within))
      ∙ changed_more xs place item within
      ∙ sym (ap (λ n. map g (take n xs) ++ drop n xs) next_is)

-- ---- a vector whose slice was written

written_back : {X : Type 0} (len : ℕ) (new old : List X) → length new ≡ length old → length old ≡ len → take len (new ++ drop (length new) old) ≡ new
written_back len new old same size =
    ap (λ rest. take len (new ++ rest)) (drop_all (length new) old (omega (arith, same)))
    ∙ ap (take len) (append-nil new) ∙ take_all len new (omega (arith, same, size))

pub codes_put : (len : ℕ) (name : CodeName) (object : Option CodeObject) (new held old : List FuncCode) → held ≡ old → length held ≡ len → new ≡ with_object held name object
    → take len (new ++ drop (length new) old) ≡ with_object old name object
codes_put len name object new held old same size is =
    let put : new ≡ with_object old name object = is ∙ ap (λ cs. with_object cs name object) same in
    written_back len new old (ap length put ∙ length-with name.kind object old name.func.0) (ap length (sym same) ∙ size) ∙ put

pub length-moved : (codes : List FuncCode) (moves : List CodeMove) → length (map (code_moved moves) codes) ≡ length codes
length-moved [] moves = refl
length-moved (code ∷ codes) moves = ap (λ n. suc n) (length-moved codes moves)

pub codes_slid : (len : ℕ) (moves all : List CodeMove) (new held old : List FuncCode) → held ≡ old → length held ≡ len → new ≡ map (code_moved moves) held → moves ≡ all
    → take len (new ++ drop (length new) old) ≡ map (code_moved all) old
codes_slid len moves all new held old same size is moves_are =
    let slid : new ≡ map (code_moved all) old = is ∙ ap₂ (λ ms cs. map (code_moved ms) cs) moves_are same in
    written_back len new old (ap length slid ∙ length-moved old all) (ap length (sym same) ∙ size) ∙ slid
