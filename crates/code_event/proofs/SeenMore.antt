-- What is seen of items that follow others.
use Rattle.std.proofs.Common.{◌≡◌, List, [], ◌∷◌, ◌++◌, refl, ap, sym, ◌∙◌}
use Rattle.std.proofs.lemmas.List.{append_assoc, append-nil}
use Rattle.code_event.specs.CodeMap.{after_event, after_events, ranges}
use Rattle.code_event.specs.DeoptReasons.{DeoptReasons, no_reasons, reasons, reasons_after_event, reasons_after}
use Rattle.code_event.specs.MomentLaws.{events_of, seen_of, ItemsAreSeenByTheEventsBefore}
use Rattle.code_event.specs.Seen.{Seen, ticked, resolved_tick, mark, seen_behind, seen_items}
use Rattle.code_event.specs.declared.code_map.Range.{Range}
use Rattle.code_event.specs.declared.tick.Item.{Item}
use Rattle.code_event.specs.declared.tick.Item.TheVariants as item

-- items after others are seen with the ranges and the reasons that the events among the others have left
pub seen_more : (ranges : List Range) (reasons : DeoptReasons) (items more : List Item)
    → seen_behind ranges reasons (items ++ more)
    ≡ seen_behind ranges reasons items ++ seen_behind (after_events ranges (events_of items)) (reasons_after ranges reasons (events_of items)) more
seen_more ranges reasons [] more = refl
seen_more ranges reasons (item.Event e ∷ items) more =
    let after = after_event ranges e.event in
    let why = reasons_after_event ranges reasons e.event in
    ap (λ (seen : List Seen). mark reasons e.event ++ seen) (seen_more after why items more)
    ∙ sym (append_assoc (mark reasons e.event) (seen_behind after why items) (seen_behind (after_events after (events_of items)) (reasons_after after why (events_of items)) more))
seen_more ranges reasons (item.Tick t ∷ items) more = ap (λ (seen : List Seen). ticked (resolved_tick ranges t) ∷ seen) (seen_more ranges reasons items more)

-- one item
pub seen_one : (ranges : List Range) (reasons : DeoptReasons) (next : Item) → seen_behind ranges reasons (next ∷ []) ≡ seen_of ranges reasons next
seen_one ranges reasons (item.Event e) = append-nil (mark reasons e.event)
seen_one ranges reasons (item.Tick t) = refl

pub seen_by_the_events_before : ItemsAreSeenByTheEventsBefore
seen_by_the_events_before items next =
    seen_more [] no_reasons items (next ∷ [])
    ∙ ap (λ (seen : List Seen). seen_items items ++ seen) (seen_one (ranges (events_of items)) (reasons (events_of items)) next)
