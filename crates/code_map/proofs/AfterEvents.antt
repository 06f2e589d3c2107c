-- Maps are as their events leave them.
use Rattle.std.proofs.Common.{List, [], ◌∷◌, ◌++◌, sym, subst, append-nil}
use Rattle.std.proofs.lemmas.List.{append_assoc}
use Rattle.code_event.specs.CodeMap.{ranges as ranges_after}
use Rattle.code_event.specs.DeoptReasons.{no_reasons, reasons as reasons_after}
use Rattle.code_event.specs.declared.event.CodeEvent.{CodeEvent}
use Rattle.code_map.specs.Parts.{MapParts}
use Rattle.code_map.specs.CodeMap.{HasRanges, HasReasons}
use Rattle.code_map.specs.Laws.{IsAfter, NewMapsHaveNothing, EventsAddUp, LookUpsChangeNothing, TakesAll, MapsAreAsEventsLeaveThem}
use Rattle.code_map.proofs.Histories.{after_events-more, reasons_after-more}

pub new_maps_have_nothing : NewMapsHaveNothing
new_maps_have_nothing map ranges reasons = record { ranges = ranges; reasons = reasons }

pub events_add_up : EventsAddUp
events_add_up old new events event after ranges reasons = record {
  ranges = subst (HasRanges new) (sym (after_events-more [] events event)) (ranges (ranges_after events) after.ranges);
  reasons =
      subst (HasReasons new) (sym (reasons_after-more [] no_reasons events event))
      (reasons (ranges_after events) (reasons_after events) after.ranges after.reasons);
}

pub look_ups_change_nothing : LookUpsChangeNothing
look_ups_change_nothing old new events after ranges reasons = record {
  ranges = ranges (ranges_after events) after.ranges;
  reasons = reasons (reasons_after events) after.reasons;
}

after_all : (first last : MapParts) (before events : List CodeEvent) → IsAfter first before → TakesAll first events last → IsAfter last (before ++ events)
after_all first last before [] after taken = subst (IsAfter last) (sym (append-nil before)) (look_ups_change_nothing first last before after taken.0 taken.1)
after_all first last before (event ∷ events) after taken =
    subst (IsAfter last) (append_assoc before (event ∷ []) events)
    (after_all taken.0 last (before ++ event ∷ []) events (events_add_up first taken.0 before event after taken.1 taken.2) taken.3)

pub maps_are_as_events_leave_them : MapsAreAsEventsLeaveThem
maps_are_as_events_leave_them first last events ranges reasons taken = after_all first last [] events (new_maps_have_nothing first ranges reasons) taken
