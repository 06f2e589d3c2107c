-- Code objects that share no address: what keeps them so.
use Rattle.std.proofs.Common.{◌≡◌, ℕ, ◌+◌, List, [], ◌∷◌, ◌++◌, refl, ap, arith}
use Rattle.std.proofs.lemmas.Bool.{not-true}
use Rattle.std.proofs.lemmas.Bool.Decides.{nat_tests}
use Rattle.std.specs.Prelude.{Bool, true, false, not, cond, filter, ◌&&◌, nat_lt, nat_le, Option, Some, None, ◌==◌}
use Rattle.std.specs.List.{AllByRecursion}
use Rattle.std.specs.Option.{option_map_or}
use Rattle.code_event.proofs.Counts.{IsRising, counted_within_one}
use Rattle.code_event.proofs.EachElement.{all_filtered, all_pass, all_mapped, all_pushed}
use Rattle.code_event.specs.CodeMap.{meets, with_range, without_range, range_at, range_of, after_event, after_events}
use Rattle.code_event.specs.Laws.{AreDisjoint, RangesAreDisjoint, MeetingIsMutual, AddressesHaveOneOwner}
use Rattle.code_event.specs.Symbolizer.{holds}
use Rattle.code_event.specs.declared.event.CodeEvent.{CodeEvent}
use Rattle.code_event.specs.declared.event.CodeEvent.TheVariants.{Create, Move, NoOpt, Deopt, Delete, Start, Stop, Finish}
use Rattle.code_event.specs.declared.code_map.Range.{Range}

disjoint_if : (range : Range) (others : List Range) (b : Bool) → AllByRecursion (λ other. meets range other ≡ false) others → AreDisjoint others → AreDisjoint (cond b (range ∷ others) others)
disjoint_if range others true apart disjoint = (apart, disjoint)
disjoint_if range others false apart disjoint = disjoint

-- the ranges that pass a test
disjoint_filtered : (test : Range → Bool) (ranges : List Range) → AreDisjoint ranges → AreDisjoint (filter test ranges)
disjoint_filtered test [] disjoint = tt
disjoint_filtered test (range ∷ ranges) disjoint =
    disjoint_if range (filter test ranges) (test range) (all_filtered _ test ranges disjoint.0) (disjoint_filtered test ranges disjoint.1)

-- one more range that none of them meets
disjoint_pushed : (ranges : List Range) (new : Range) → AreDisjoint ranges → AllByRecursion (λ r. meets r new ≡ false) ranges → AreDisjoint (ranges ++ new ∷ [])
disjoint_pushed [] new disjoint apart = (tt, tt)
disjoint_pushed (range ∷ ranges) new disjoint apart = (all_pushed _ ranges new disjoint.0 apart.0, disjoint_pushed ranges new disjoint.1 apart.1)

-- a range in the place of those that it meets
disjoint_with : (ranges : List Range) (new : Range) → AreDisjoint ranges → AreDisjoint (with_range ranges new)
disjoint_with ranges new disjoint =
    disjoint_pushed (filter (λ r. not (meets r new)) ranges) new (disjoint_filtered (λ r. not (meets r new)) ranges disjoint)
    (all_mapped (λ r. not (meets r new) ≡ true) (λ r. meets r new ≡ false) _ (λ r. not-true (meets r new)) (all_pass (λ r. not (meets r new)) ranges))

disjoint_moved : (ranges : List Range) (from to : ℕ) (moved : Option Range) → AreDisjoint ranges → AreDisjoint (option_map_or (λ r. with_range (without_range ranges from) (range_of to r.layout)) moved ranges)
disjoint_moved ranges from to None disjoint = disjoint
disjoint_moved ranges from to (Some r) disjoint = disjoint_with (without_range ranges from) (range_of to r.layout) (disjoint_filtered (λ r. not (r.start == from)) ranges disjoint)

disjoint_after_event : (ranges : List Range) (event : CodeEvent) → AreDisjoint ranges → AreDisjoint (after_event ranges event)
disjoint_after_event ranges (Create start layout) disjoint = disjoint_with ranges (range_of start layout) disjoint
disjoint_after_event ranges (Move from to) disjoint = disjoint_moved ranges from to (range_at ranges from) disjoint
disjoint_after_event ranges (NoOpt start reason) disjoint = disjoint
disjoint_after_event ranges (Deopt start reason) disjoint = disjoint
disjoint_after_event ranges (Delete start) disjoint = disjoint_filtered (λ r. not (r.start == start)) ranges disjoint
disjoint_after_event ranges (Start session options time) disjoint = disjoint
disjoint_after_event ranges (Stop session time) disjoint = disjoint
disjoint_after_event ranges (Finish time files) disjoint = disjoint

disjoint_after : (ranges : List Range) (events : List CodeEvent) → AreDisjoint ranges → AreDisjoint (after_events ranges events)
disjoint_after ranges [] disjoint = disjoint
disjoint_after ranges (event ∷ events) disjoint = disjoint_after (after_event ranges event) events (disjoint_after_event ranges event disjoint)

pub always_disjoint : RangesAreDisjoint
always_disjoint events = disjoint_after [] events tt

swapped : (a b : Bool) → (a && b) ≡ (b && a)
swapped true true = refl
swapped true false = refl
swapped false true = refl
swapped false false = refl

pub meeting_is_mutual : MeetingIsMutual
meeting_is_mutual one other = swapped (nat_lt one.start (other.start + other.size)) (nat_lt other.start (one.start + one.size))

within_one : (address start size other_start other_size : ℕ) → (nat_lt start (other_start + other_size) && nat_lt other_start (start + size)) ≡ false
    → (nat_le start address && nat_lt address (start + size)) ≡ true → (nat_le other_start address && nat_lt address (other_start + other_size)) ≡ false
within_one address start size other_start other_size apart inside = grind (arith, nat_tests)

-- an address in one range is in no range that does not meet it
held_once : (address : ℕ) (one other : Range) → not (meets one other) ≡ true → holds address one ≡ true → holds address other ≡ false
held_once address one other apart inside = within_one address one.start one.size other.start other.size (not-true (meets one other) apart) inside

apart_in_order : (ranges : List Range) → AreDisjoint ranges → IsRising (λ one other. not (meets one other)) ranges
apart_in_order [] disjoint = tt
apart_in_order (range ∷ ranges) disjoint =
    (all_mapped (λ other. meets range other ≡ false) (λ other. not (meets range other) ≡ true) ranges (λ other apart. ap not apart) disjoint.0, apart_in_order ranges disjoint.1)

pub one_owner : AddressesHaveOneOwner
one_owner events address = counted_within_one (λ one other. not (meets one other)) (holds address) (held_once address) (after_events [] events) (apart_in_order (after_events [] events) (always_disjoint events))
