-- What legal lists let come next.
use Rattle.std.proofs.Common.{◌≡◌, ℕ, List, [], ◌∷◌, ◌++◌, Bool, subst, arith}
use Rattle.std.specs.List.{AllByRecursion}
use Rattle.prof_base.proofs.Ordered.{has_from_contains, contains_from_has}
use Rattle.code_event.specs.DeoptReasons.{no_reasons}
use Rattle.code_event.specs.FileLaws.{IsOpenItem, running_after}
use Rattle.code_event.specs.ItemList.{ListSoFar, MayCome, IsLegalAfter, IsLegalItems}
use Rattle.code_event.specs.Seen.{seen_items}
use Rattle.code_event.specs.declared.event.CodeEvent.TheVariants.{Start, Stop, Finish}
use Rattle.code_event.specs.declared.event.EventRecord.{EventRecord}
use Rattle.code_event.specs.declared.tick.Item.{Item}
use Rattle.code_event.specs.declared.tick.Item.TheVariants as item
use Rattle.attribution.specs.ItemLaws.{NothingFollowsAFinish, StartsAreNew, StopsAreOfRunning, RunningHaveNotEnded}
use Rattle.attribution.proofs.Courses.{Knows, known_items}

-- before any item
abbrev nothing_yet : ListSoFar
nothing_yet = record { time = 0; started = []; running = [] }

known_at_first : Knows nothing_yet [] []
known_at_first = record {
  short = omega arith;
  runs = λ n h. h;
  distinct = tt;
  known = λ n h. h;
  listed = λ n h. h;
  fresh = λ n none. tt;
  going = λ n h. tt;
}

known_next : (items rest : List Item) (next : Item) → IsLegalItems (items ++ next ∷ rest)
    → (last : ListSoFar) × IsLegalAfter last (next ∷ rest) × Knows last (running_after items) (seen_items items) × AllByRecursion IsOpenItem items
known_next items rest next legal = known_items [] no_reasons nothing_yet [] [] items rest next known_at_first legal

pub nothing_follows_a_finish : NothingFollowsAFinish
nothing_follows_a_finish items rest next legal = (known_next items rest next legal).3

pub starts_are_new : StartsAreNew
starts_are_new items rest e s options time legal is =
    let k = known_next items rest (item.Event e) legal in
    let may : MayCome k.0 (Start s options time) rest (λ c. IsLegalAfter c rest) = subst (λ event. MayCome k.0 event rest (λ c. IsLegalAfter c rest)) is k.1 in (
      (λ runs. may.1 (contains_from_has k.0.started s.0 (k.2.listed s.0 (has_from_contains (running_after items) s.0 runs))), omega (arith, k.2.short, may.2)),
      k.2.fresh s.0 (λ h. may.1 (contains_from_has k.0.started s.0 h)),
    )

pub stops_are_of_running : StopsAreOfRunning
stops_are_of_running items rest e s time legal is =
    let k = known_next items rest (item.Event e) legal in
    let may : MayCome k.0 (Stop s time) rest (λ c. IsLegalAfter c rest) = subst (λ event. MayCome k.0 event rest (λ c. IsLegalAfter c rest)) is k.1 in
    contains_from_has (running_after items) s.0 (k.2.runs s.0 (has_from_contains k.0.running s.0 may.1))

pub running_have_not_ended : RunningHaveNotEnded
running_have_not_ended items rest next number legal runs =
    let k = known_next items rest next legal in k.2.going number (has_from_contains (running_after items) number runs)

pub finishes_are_last : (items rest : List Item) (e : EventRecord) (time : ℕ) (files : Bool) → IsLegalItems (items ++ item.Event e ∷ rest) → e.event ≡ Finish time files → rest ≡ []
finishes_are_last items rest e time files legal is =
    let k = known_next items rest (item.Event e) legal in
    let may : MayCome k.0 (Finish time files) rest (λ c. IsLegalAfter c rest) = subst (λ event. MayCome k.0 event rest (λ c. IsLegalAfter c rest)) is k.1 in
    may.1
