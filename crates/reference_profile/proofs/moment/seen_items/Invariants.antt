use Rattle.std.proofs.Common.{◌≡◌, ◌++◌, map, drop}
use Rattle.code_event.specs.DeoptReasons.{reasons_in}
use Rattle.code_event.specs.Seen.{seen_by, seen_behind, seen_items}
use Rattle.reference_profile.proofs.moment.seen_items.Given as goal

abbrev pub invariant-loop-item : goal.invariant-loop-item
invariant-loop-item l =
    map seen_by l.seen ++ seen_behind l.moment.ranges (reasons_in l.moment.reasons) (drop l.item-index l.items) ≡ seen_items l.items
