-- What an isolate puts into its three queues.
use Rattle.std.specs.Prelude.{◌≡◌, List, ◌++◌, Option, option_map, true, false}
use Rattle.std.specs.List.{AllByRecursion}
use Rattle.code_event.specs.declared.event.EventRecord.{EventRecord}
use Rattle.code_event.specs.declared.tick.Item.{Item}
use Rattle.code_event.specs.declared.tick.Tick.{Tick}
use Rattle.pipe_core.specs.CoreOrder.{IsJoined}
use Rattle.pipe_core.specs.Stamps.{events_of, ticks_of}
use Rattle.isolate_ends.specs.declared.ends.Ends.{Ends}

-- A list for each queue, where it can be observed.
pub record Lists : Type 0 where
  pub events : Option (List EventRecord)
  pub vm_ticks : Option (List Tick)
  pub ring : Option (List Tick)

-- What the three ends show: all that was put in at each, and what each queue holds.
pub record Shown : Type 0 where
  pub passed : Lists
  pub holds : Lists

-- what ends show, by what each kind of end shows
abbrev pub shown : {E V O : Type 0} → (E → Option (List EventRecord)) → (V → Option (List Tick)) → (O → Option (List Tick))
    → (E → Option (List EventRecord)) → (V → Option (List Tick)) → (O → Option (List Tick)) → Ends E V O → Shown
shown e_passed v_passed o_passed e_holds v_holds o_holds ends =
    record {
      passed = record { events = e_passed ends.events; vm_ticks = v_passed ends.vm_ticks; ring = o_passed ends.ring };
      holds = record { events = e_holds ends.events; vm_ticks = v_holds ends.vm_ticks; ring = o_holds ends.ring };
    }

-- a list, where it can be observed, with these at its end
abbrev pub with_all : {A : Type 0} → Option (List A) → List A → Option (List A)
with_all before more = option_map (λ xs. xs ++ more) before

-- The lists have these items more: the events in the one, the samples in the ring, and the ticks of the engine in the third, each in order.
pub record GotMore (before after : Lists) (raised : List Item) : Type 0 where
  pub events : after.events ≡ with_all before.events (events_of raised)
  pub vm_more : List Tick
  pub ring_more : List Tick
  pub vm_ticks : after.vm_ticks ≡ with_all before.vm_ticks vm_more
  pub ring : after.ring ≡ with_all before.ring ring_more
  pub joined : IsJoined vm_more ring_more (ticks_of raised)
  pub no_hits : AllByRecursion (λ (t : Tick). t.hit ≡ false) vm_more
  pub hits : AllByRecursion (λ (t : Tick). t.hit ≡ true) ring_more

-- These items were put in, and are held.
pub record HaveMore (before after : Shown) (raised : List Item) : Type 0 where
  pub passed : GotMore before.passed after.passed raised
  pub holds : GotMore before.holds after.holds raised
