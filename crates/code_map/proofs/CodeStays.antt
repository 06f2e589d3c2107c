-- Ranges that are code objects stay so.
use Rattle.std.proofs.Common.{ℕ, List, [], ◌∷◌, refl}
use Rattle.std.specs.Prelude.{Bool, true, false, cond, not, find, Option, Some, None, IfSome, ◌==◌}
use Rattle.std.specs.List.{AllByRecursion}
use Rattle.std.specs.Option.{option_map_or}
use Rattle.code_event.proofs.EachElement.{all_filtered, all_pushed}
use Rattle.code_event.specs.CodeMap.{meets, range_of, range_at, with_range, without_range}
use Rattle.code_event.specs.declared.code_map.Range.{Range}
use Rattle.code_map.specs.Objects.{IsCode}

some_if : {X : Type 0} (P : X → Type 0) (x : X) (others : Option X) (b : Bool) → P x → IfSome others P → IfSome (cond b (Some x) others) P
some_if P x others true first later = first
some_if P x others false first later = later

-- what holds of all elements holds of the one that is found
pub all_found : {X : Type 0} (P : X → Type 0) (test : X → Bool) (xs : List X) → AllByRecursion P xs → IfSome (find test xs) P
all_found P test [] all = tt
all_found P test (x ∷ xs) all = some_if P x (find test xs) (test x) all.0 (all_found P test xs all.1)

moved_is_code : (range : Range) (to : ℕ) → IsCode range → IsCode (range_of to range.layout)
moved_is_code range to code = record { is_range = refl; some_slots = code.some_slots }

pub code_with_range : (ranges : List Range) (new : Range) → AllByRecursion IsCode ranges → IsCode new → AllByRecursion IsCode (with_range ranges new)
code_with_range ranges new all code = all_pushed IsCode _ new (all_filtered IsCode (λ r. not (meets r new)) ranges all) code

pub code_without_range : (ranges : List Range) (start : ℕ) → AllByRecursion IsCode ranges → AllByRecursion IsCode (without_range ranges start)
code_without_range ranges start all = all_filtered IsCode (λ r. not (r.start == start)) ranges all

code_if_moved : (from to : ℕ) (ranges : List Range) (found : Option Range) → AllByRecursion IsCode ranges → IfSome found IsCode
    → AllByRecursion IsCode (option_map_or (λ r. with_range (without_range ranges from) (range_of to r.layout)) found ranges)
code_if_moved from to ranges None all code = all
code_if_moved from to ranges (Some range) all code = code_with_range (without_range ranges from) (range_of to range.layout) (code_without_range ranges from all) (moved_is_code range to code)

pub code_moved : (from to : ℕ) (ranges : List Range) → AllByRecursion IsCode ranges
    → AllByRecursion IsCode (option_map_or (λ r. with_range (without_range ranges from) (range_of to r.layout)) (range_at ranges from) ranges)
code_moved from to ranges all = code_if_moved from to ranges (range_at ranges from) all (all_found IsCode (λ r. r.start == from) ranges all)
