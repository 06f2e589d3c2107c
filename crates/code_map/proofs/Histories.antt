-- The ranges and reasons after one event more.
use Rattle.std.proofs.Common.{◌≡◌, List, [], ◌∷◌, ◌++◌, refl, ap, sym, subst, ◌∙◌}
use Rattle.std.specs.List.{AllByRecursion}
use Rattle.code_event.proofs.Disjoint.{always_disjoint}
use Rattle.code_event.specs.Laws.{AreDisjoint}
use Rattle.code_event.specs.CodeMap.{after_event, after_events}
use Rattle.code_event.specs.DeoptReasons.{DeoptReasons, reasons_after_event, reasons_after}
use Rattle.code_event.specs.declared.code_map.Range.{Range}
use Rattle.code_event.specs.declared.event.CodeEvent.{CodeEvent}
use Rattle.code_map.specs.Objects.{IsCode, AreCode}
use Rattle.code_map.specs.CodeMap.{IsOfRanges}

pub after_events-more : (ranges : List Range) (events : List CodeEvent) (event : CodeEvent) → after_events ranges (events ++ event ∷ []) ≡ after_event (after_events ranges events) event
after_events-more ranges [] event = refl
after_events-more ranges (first ∷ events) event = after_events-more (after_event ranges first) events event

pub reasons_after-more : (ranges : List Range) (reasons : DeoptReasons) (events : List CodeEvent) (event : CodeEvent)
    → reasons_after ranges reasons (events ++ event ∷ []) ≡ reasons_after_event (after_events ranges events) (reasons_after ranges reasons events) event
reasons_after-more ranges reasons [] event = refl
reasons_after-more ranges reasons (first ∷ events) event = reasons_after-more (after_event ranges first) (reasons_after_event ranges reasons first) events event

-- ranges that some events left share no address
pub ranges_are_code : (objects ranges : List Range) → IsOfRanges objects ranges → AreCode ranges
ranges_are_code objects ranges of = record { each = of.code; disjoint = subst AreDisjoint (sym of.left) (always_disjoint of.history) }

pub objects_are_code : (objects ranges : List Range) → IsOfRanges objects ranges → AreCode objects
objects_are_code objects ranges of = subst AreCode (sym of.are) (ranges_are_code objects ranges of)

-- the ranges after an event are those of the objects after it
pub ranges_follow : (old new ranges : List Range) (event : CodeEvent) → IsOfRanges old ranges → new ≡ after_event old event → AllByRecursion IsCode new → IsOfRanges new (after_event ranges event)
ranges_follow old new ranges event of changed code =
    let same : new ≡ after_event ranges event = changed ∙ ap (λ rs. after_event rs event) of.are in
    record {
      are = same;
      code = subst (AllByRecursion IsCode) same code;
      history = of.history ++ event ∷ [];
      left = ap (λ rs. after_event rs event) of.left ∙ sym (after_events-more [] of.history event);
    }
