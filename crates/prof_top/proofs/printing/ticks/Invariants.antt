use Rattle.std.proofs.Common.{◌≡◌, ◌≤◌, take, count_by}
use Rattle.prof_top.specs.PrintedText.{is_tick}
use Rattle.prof_top.proofs.printing.ticks.Given as goal

abbrev pub invariant-loop-item : goal.invariant-loop-item
invariant-loop-item l = record {
  counted : l.ticks ≡ count_by is_tick (take l.item-index l.items);
  few : l.ticks ≤ l.item-index;
}
