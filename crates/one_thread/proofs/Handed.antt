-- What the processor has taken, where the isolate's queues were passed on or held nothing.
use Rattle.std.proofs.Common.{◌≡◌, ℕ, List, ◌++◌, sym, subst, ◌∙◌}
use Rattle.std.specs.Prelude.{Option}
use Rattle.code_event.specs.declared.event.EventRecord.{EventRecord}
use Rattle.code_event.specs.declared.tick.Item.{Item}
use Rattle.code_event.specs.declared.tick.Tick.{Tick}
use Rattle.out_stream.specs.Parts.{Parts}
use Rattle.processor.specs.Plain.{GoesOn}
use Rattle.processor.specs.Settling.{IsSettled}
use Rattle.processor.specs.TakingLaws.{HoldRest}
use Rattle.one_thread.specs.UnderWay.{AreEmpty, IsBetween, IsHanded, PlainIsolate, PlainProcessor}
use Rattle.one_thread.proofs.Passed.{empty_rest, goes_on, still_settled}

module _ {S : Type 0} (parts : S → Option Parts) (base : ℕ) (raised more : List Item) (before : Option Parts) (i0 i1 : PlainIsolate) (p0 p1 : PlainProcessor S)
    (between : IsBetween base raised more before (parts p0.stream) i0 p0) (same : p1 ≡ p0) (events : i1.ends.events.items ≡ i0.ends.events.items) (vm_ticks : i1.ends.vm_ticks.items ≡ i0.ends.vm_ticks.items)
    (samples : i1.ends.ring.ring.items ≡ i0.ends.ring.ring.items) where
  hold_now : HoldRest raised more i1.ends.events.items i1.ends.vm_ticks.items i1.ends.ring.ring.items
  hold_now =
      subst (λ (l : List EventRecord). HoldRest raised more l i1.ends.vm_ticks.items i1.ends.ring.ring.items) (sym events)
      (subst (λ (l : List Tick). HoldRest raised more i0.ends.events.items l i1.ends.ring.ring.items) (sym vm_ticks)
      (subst (λ (l : List Tick). HoldRest raised more i0.ends.events.items i0.ends.vm_ticks.items l) (sym samples) between.hold))

  settled_now : IsSettled base raised p1.applied p1.ticked p1.course before (parts p1.stream) p1.events.items p1.vm_ticks.items p1.ring.items
  settled_now = subst (λ (p : PlainProcessor S). IsSettled base raised p.applied p.ticked p.course before (parts p.stream) p.events.items p.vm_ticks.items p.ring.items) (sym same) between.settled

  -- the processor is at work on what was passed on
  pub on_passed : (p2 : PlainProcessor S) → p2 ≡ record p1 { events = i1.ends.events; vm_ticks = i1.ends.vm_ticks; ring = i1.ends.ring.ring }
      → GoesOn base (raised ++ more) p2.applied p2.ticked p2.course before (parts p2.stream) p2.events.items p2.vm_ticks.items p2.ring.items
  on_passed p2 is =
      subst (λ (p : PlainProcessor S). GoesOn base (raised ++ more) p.applied p.ticked p.course before (parts p.stream) p.events.items p.vm_ticks.items p.ring.items) (sym is)
      (goes_on base raised more p1.applied p1.ticked p1.course before (parts p1.stream) i1.ends.events.items p1.events.items i1.ends.vm_ticks.items p1.vm_ticks.items i1.ends.ring.ring.items p1.ring.items settled_now hold_now)

  -- the queues that the isolate gets hold nothing
  pub none_back : (i2 : PlainIsolate) → i2 ≡ record i1 { ends = record { events = p1.events; vm_ticks = p1.vm_ticks; ring = record i1.ends.ring { ring = p1.ring } } }
      → AreEmpty i2.ends.events.items i2.ends.vm_ticks.items i2.ends.ring.ring.items
  none_back i2 is =
      subst (λ (i : PlainIsolate). AreEmpty i.ends.events.items i.ends.vm_ticks.items i.ends.ring.ring.items) (sym is) (empty_rest raised p1.events.items p1.vm_ticks.items p1.ring.items settled_now.hold)

  -- where nothing was raised
  pub nothing_handed : AreEmpty i0.ends.events.items i0.ends.vm_ticks.items i0.ends.ring.ring.items → IsHanded base (raised ++ more) before (parts p1.stream) i1 p1
  nothing_handed none =
      let none_now : AreEmpty i1.ends.events.items i1.ends.vm_ticks.items i1.ends.ring.ring.items =
      record { no_event = events ∙ none.no_event; no_vm_tick = vm_ticks ∙ none.no_vm_tick; no_sample = samples ∙ none.no_sample } in
      record {
        none_waits = none_now;
        settled =
            still_settled base raised more p1.applied p1.ticked p1.course before (parts p1.stream) i1.ends.events.items p1.events.items i1.ends.vm_ticks.items p1.vm_ticks.items i1.ends.ring.ring.items p1.ring.items
            settled_now hold_now none_now;
      }
