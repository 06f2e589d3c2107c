-- An isolate and its processor, turned by one thread.
use Rattle.std.specs.Prelude.{◌≡◌, ℕ, ◌<◌, ◌≤◌, List, [], ◌++◌, length, false, Option, None}
use Rattle.prof_base.specs.Causes.{Rose}
use Rattle.guest_program.specs.declared.instr.Func.{Func}
use Rattle.code_event.specs.ItemList.{IsLegalItems}
use Rattle.code_event.specs.declared.event.EventRecord.{EventRecord}
use Rattle.code_event.specs.declared.tick.Item.{Item}
use Rattle.code_event.specs.declared.tick.Tick.{Tick}
use Rattle.out_stream.specs.Parts.{Parts}
use Rattle.pipe_core.specs.Plain.{QueueValue, RingValue}
use Rattle.run_schedule.specs.ScheduleParts.{ScheduleParts}
use Rattle.run_schedule.specs.declared.schedule.EndCause.{EndCause}
use Rattle.isolate_acts.specs.Acts.{Act, calls_on, moment_on, progress_on, raised_on}
use Rattle.isolate_acts.specs.Calls.{Call, with_calls}
use Rattle.isolate_acts.specs.Phases.{Phase, LeadTo, IsOver, first_phase}
use Rattle.isolate_acts.specs.Progress.{Moment, Progress}
use Rattle.isolate_ends.specs.Offered.{AreOffered}
use Rattle.isolate_ends.specs.Runs.{Answers}
use Rattle.isolate_ends.specs.declared.turn.IsoTurn.{IsoTurn}
use Rattle.isolate_turns.specs.Kept.{IsKept}
use Rattle.isolate_turns.specs.Ready.{IsIsolate, IsNow}
use Rattle.isolate_turns.specs.declared.state.Isolate.{Isolate}
use Rattle.isolate_turns.specs.declared.state.IsoConfig.{IsoConfig}
use Rattle.processor.specs.Filing.{FilingParts}
use Rattle.processor.specs.Processor.{ProcessorParts}
use Rattle.processor.specs.Settling.{IsSettled}
use Rattle.processor.specs.TakingLaws.{HoldRest}
use Rattle.processor.specs.declared.turn.Delivery.TheVariants.{Aborted, Failed}
use Rattle.one_thread.specs.declared.ring.TheConstants.{PLACES}
use Rattle.one_thread.specs.declared.ring.TurnRing.{TurnRing}

-- the isolate, and the processor, over the queues of one thread
abbrev pub PlainIsolate : Type 0
PlainIsolate = Isolate (QueueValue EventRecord) (QueueValue Tick) TurnRing

abbrev pub PlainProcessor : Type 0 → Type 0
PlainProcessor S = ProcessorParts (QueueValue EventRecord) (QueueValue Tick) RingValue S

-- What a stream has got, where it can be observed, what it has counted, and the size of its chunks.
pub record Outlet : Type 0 where
  pub parts : Option Parts
  pub aborts : ℕ
  pub faults : ℕ
  pub chunk_bytes : ℕ

-- Where a delivery was refused, the stream has counted it since then. No count has fallen, and the size of its chunks is the same.
pub record IsCounted (filing : FilingParts) (before now : Outlet) : Type 0 where
  pub aborted : filing.delivery ≡ Aborted → Rose before.aborts now.aborts
  pub failed : filing.delivery ≡ Failed → Rose before.faults now.faults
  pub aborts : before.aborts ≤ now.aborts
  pub faults : before.faults ≤ now.faults
  pub chunk_bytes : now.chunk_bytes ≡ before.chunk_bytes

-- three queues hold nothing
pub record AreEmpty (events : List EventRecord) (vm_ticks ring : List Tick) : Type 0 where
  pub no_event : events ≡ []
  pub no_vm_tick : vm_ticks ≡ []
  pub no_sample : ring ≡ []

-- both sides have rings of the same number of places, and until the end a spare place for its event
pub record AreAlike {S : Type 0} (ending : Option EndCause) (isolate : PlainIsolate) (processor : PlainProcessor S) : Type 0 where
  pub spare : ending ≡ None → isolate.ends.events.spare ≡ 1
  pub spare_taken : ending ≡ None → processor.events.spare ≡ 1
  pub places_are : isolate.ends.ring.ring.places ≡ PLACES
  pub places_taken : processor.ring.places ≡ PLACES

-- Between a turn of the isolate and those of the processor: the items of a legal list that were raised before are taken, and the isolate's queues hold what was raised since.
pub record IsBetween {S : Type 0} (base : ℕ) (raised more : List Item) (before now : Option Parts) (isolate : PlainIsolate) (processor : PlainProcessor S) : Type 0 where
  pub legal : IsLegalItems (raised ++ more)
  pub hold : HoldRest raised more isolate.ends.events.items isolate.ends.vm_ticks.items isolate.ends.ring.ring.items
  pub settled : IsSettled base raised processor.applied processor.ticked processor.course before now processor.events.items processor.vm_ticks.items processor.ring.items

-- all of it is taken, and the isolate's queues hold nothing
pub record IsHanded {S : Type 0} (base : ℕ) (raised : List Item) (before now : Option Parts) (isolate : PlainIsolate) (processor : PlainProcessor S) : Type 0 where
  pub none_waits : AreEmpty isolate.ends.events.items isolate.ends.vm_ticks.items isolate.ends.ring.ring.items
  pub settled : IsSettled base raised processor.applied processor.ticked processor.course before now processor.events.items processor.vm_ticks.items processor.ring.items

-- Between turns: the isolate has raised these items, all of them are taken, and their files were delivered, since the stream was as it was before.
pub record IsUnderWay {S : Type 0} (base : ℕ) (funcs : List Func) (moment : Moment) (raised : List Item) (before now : Outlet) (isolate : PlainIsolate) (processor : PlainProcessor S) : Type 0 where
  pub kept : IsKept funcs moment isolate.progress raised
  pub now_is : IsNow isolate.guest.machine isolate.progress isolate.printed.items moment
  pub ready : IsIsolate isolate.guest.machine isolate.progress
  pub alike : AreAlike isolate.progress.ending isolate processor
  pub none_waits : AreEmpty isolate.ends.events.items isolate.ends.vm_ticks.items isolate.ends.ring.ring.items
  pub settled : IsSettled base raised processor.applied processor.ticked processor.course before.parts now.parts processor.events.items processor.vm_ticks.items processor.ring.items
  pub counted : IsCounted processor.course.filing before now

-- what precedes the entries is the same
pub record SameHead (before after : ScheduleParts) : Type 0 where
  pub base : after.base ≡ before.base
  pub ring : after.ring ≡ before.ring
  pub budget : after.budget ≡ before.budget
  pub limit : after.limit ≡ before.limit

-- A turn from one state to another: the acts that it did, what they came to, and that all items which they raised are taken. A sample was dropped just where the ring refuses each.
pub record HasTurned {S : Type 0} (base : ℕ) (funcs : List Func) (moment : Moment) (raised : List Item) (before now : Outlet) (old new : PlainIsolate) (processor : PlainProcessor S) (calls calls_now : Option (List Call)) (answer : IsoTurn) : Type 0 where
  pub last : Phase
  pub acts : List Act
  pub follow : LeadTo moment old.progress (first_phase old.progress) acts last
  pub over : IsOver (moment_on moment acts) (progress_on moment old.progress acts) last
  pub progress : new.progress ≡ progress_on moment old.progress acts
  pub head : SameHead old.progress.schedule new.progress.schedule
  pub calls_are : calls_now ≡ with_calls calls (calls_on moment old.progress acts)
  pub answers : Answers answer new.progress.ending
  pub offered : AreOffered old.ends.ring.refuses acts
  pub refuses : new.ends.ring.refuses ≡ old.ends.ring.refuses
  pub way : IsUnderWay base funcs (moment_on moment acts) (raised ++ raised_on moment old.progress acts) before now new processor

-- before the first turn: nothing was entered
abbrev pub first_progress : IsoConfig → Progress
first_progress config =
    record {
      schedule = record { base = config.base; ring = config.ring; budget = config.budget; limit = config.limit; entries = [] };
      step = 0;
      events = 1;
      ticks = 0;
      is_sampled = false;
      ending = None;
    }

-- an isolate that was just opened, whose queues hold the event of its opening
pub record HasRaised (funcs : List Func) (config : IsoConfig) (isolate : PlainIsolate) : Type 0 where
  pub moment : Moment
  pub raised : List Item
  pub kept : IsKept funcs moment isolate.progress raised
  pub now_is : IsNow isolate.guest.machine isolate.progress isolate.printed.items moment
  pub ready : IsIsolate isolate.guest.machine isolate.progress
  pub progress : isolate.progress ≡ first_progress config
  pub hold : HoldRest [] raised isolate.ends.events.items isolate.ends.vm_ticks.items isolate.ends.ring.ring.items
  pub spare : isolate.ends.events.spare ≡ 1
  pub places : isolate.ends.ring.ring.places ≡ PLACES
  pub takes : isolate.ends.ring.refuses ≡ false

-- an isolate and a processor that were just opened, which has taken that event
pub record HasOpened {S : Type 0} (funcs : List Func) (config : IsoConfig) (before now : Outlet) (isolate : PlainIsolate) (processor : PlainProcessor S) : Type 0 where
  pub moment : Moment
  pub raised : List Item
  pub way : IsUnderWay config.base funcs moment raised before now isolate processor
  pub progress : isolate.progress ≡ first_progress config
  pub takes : isolate.ends.ring.refuses ≡ false
