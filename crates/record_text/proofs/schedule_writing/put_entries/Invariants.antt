use Rattle.std.proofs.Common.{◌≡◌, ◌++◌, take}
use Rattle.std.specs.List.{AllByRecursion}
use Rattle.record_text.specs.ScheduleSpelling.{entries_text, FitsTypes}
use Rattle.record_text.proofs.schedule_writing.put_entries.Given as goal

abbrev pub invariant-loop-entry : goal.invariant-loop-entry
invariant-loop-entry l = record {
  text : l.out.items ≡ l.fn.out.items ++ entries_text (take l.entry-index l.entries);
  types : AllByRecursion FitsTypes (take l.entry-index l.entries);
}
