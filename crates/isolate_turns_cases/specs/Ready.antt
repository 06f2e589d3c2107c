-- What a case keeps of its isolate between turns.
use Rattle.std.specs.Prelude.{◌≡◌, ◌≤◌, None}
use Rattle.code_event.specs.declared.event.EventRecord.{EventRecord}
use Rattle.code_event.specs.declared.tick.Tick.{Tick}
use Rattle.isolate_turns.specs.Ready.{IsIsolate}
use Rattle.isolate_turns.specs.declared.state.Isolate.{Isolate}
use Rattle.isolate_turns_cases.specs.declared.queue.RefusingQueue.{RefusingQueue}
use Rattle.isolate_turns_cases.specs.declared.ring.CountingRing.{CountingRing}

-- The isolate has ended, or is ready to go on and its events have their spare place.
abbrev pub IsReadyToTurn : Isolate (RefusingQueue EventRecord) (RefusingQueue Tick) CountingRing → Type 0
IsReadyToTurn isolate = IsIsolate isolate.guest.machine isolate.progress × (isolate.progress.ending ≡ None → 1 ≤ isolate.ends.events.queue.spare)
