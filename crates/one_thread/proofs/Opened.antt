-- Where both sides are once they were opened, and the event of the opening is taken.
use Rattle.std.proofs.Common.{◌≡◌, List, [], ◌++◌, ap, sym, subst, ◌∙◌}
use Rattle.std.specs.Prelude.{false, Option}
use Rattle.guest_program.specs.declared.instr.Func.{Func}
use Rattle.code_event.specs.ItemList.{IsLegalItems}
use Rattle.code_event.specs.declared.event.EventRecord.{EventRecord}
use Rattle.code_event.specs.declared.tick.Tick.{Tick}
use Rattle.out_stream.specs.Parts.{Parts}
use Rattle.pipe_core.specs.Plain.{QueueValue, RingValue}
use Rattle.isolate_ends.specs.declared.ends.Ends.{Ends}
use Rattle.isolate_turns.specs.declared.state.IsoConfig.{IsoConfig}
use Rattle.processor.proofs.DeliveredFiles.{files_are_delivered}
use Rattle.processor.proofs.Turns.{legal_before}
use Rattle.processor.specs.Course.{StandsFor}
use Rattle.processor.specs.CourseLaws.{AreDelivered, waiting_in}
use Rattle.processor.specs.Settling.{GoesOnTo, IsSettled}
use Rattle.processor.specs.declared.turn.Delivery.TheVariants.{Fine}
use Rattle.processor.specs.declared.turn.Phase.{Phase}
use Rattle.processor.specs.declared.turn.Phase.TheVariants as phase
use Rattle.one_thread.specs.declared.ring.TheConstants.{PLACES}
use Rattle.one_thread.specs.declared.ring.TurnRing.{TurnRing}
use Rattle.one_thread.specs.UnderWay.{AreAlike, HasOpened, HasRaised, IsBetween, IsHanded, Outlet, PlainIsolate, PlainProcessor}
use Rattle.one_thread.proofs.Passed.{legal_at}

module _ {S : Type 0} (funcs : List Func) (config : IsoConfig) (i : PlainIsolate) (p : PlainProcessor S) (raised : HasRaised funcs config i)
    (stands : (before : Option Parts) → StandsFor config.base [] p.applied p.ticked p.course before before) (opened : p.course.phase ≡ phase.Open)
    (events : p.events ≡ record { items = []; spare = 1; is_shown = false; looks = 0 }) (vm_ticks : p.vm_ticks.items ≡ []) (ring : p.ring ≡ record { items = []; places = PLACES; is_held = false; fulls = 0; empties = 0 }) where
  legal_now : IsLegalItems raised.raised
  legal_now = legal_at i.progress.ending funcs raised.moment i.progress raised.raised raised.kept.stands

  settled_first : (before : Option Parts) → IsSettled config.base [] p.applied p.ticked p.course before before p.events.items p.vm_ticks.items p.ring.items
  settled_first before = record {
    stands = stands before;
    hold = record { stamped = tt; events_are = ap (λ (q : QueueValue EventRecord). q.items) events; ticks_are = (vm_ticks, ap (λ (r : RingValue). r.items) ring) };
    delivered =
        subst (λ (q : Phase). AreDelivered config.base [] (waiting_in q p.course.filing.running) p.course.filing before before) opened
        (files_are_delivered config.base [] p.applied p.ticked p.course before before (stands before) (legal_before [] raised.raised legal_now));
  }

  -- nothing was taken yet, and the isolate's queues hold the event
  pub between_first : (before : Option Parts) → IsBetween config.base [] raised.raised before before i p
  between_first before = record { legal = legal_now; hold = raised.hold; settled = settled_first before }

  pub alike_first : AreAlike i.progress.ending i p
  alike_first = record {
    spare = λ on. raised.spare;
    spare_taken = λ on. ap (λ (q : QueueValue EventRecord). q.spare) events;
    places_are = raised.places;
    places_taken = ap (λ (r : RingValue). r.places) ring;
  }

  module _ (before now : Outlet) (p2 : PlainProcessor S) (fine : p.course.filing.delivery ≡ Fine) (refusing : GoesOnTo p.course.filing p2.course.filing before.aborts before.faults now.aborts now.faults)
      (size : now.chunk_bytes ≡ before.chunk_bytes) where
    opened_with : (ends : Ends (QueueValue EventRecord) (QueueValue Tick) TurnRing) → ends.ring.refuses ≡ false → IsHanded config.base ([] ++ raised.raised) before.parts now.parts (record i { ends = ends }) p2
        → AreAlike i.progress.ending (record i { ends = ends }) p2 → HasOpened funcs config before now (record i { ends = ends }) p2
    opened_with ends takes handed alike = record {
      moment = raised.moment;
      raised = raised.raised;
      way = record {
        kept = raised.kept;
        now_is = raised.now_is;
        ready = raised.ready;
        alike = alike;
        none_waits = handed.none_waits;
        settled = handed.settled;
        counted = record {
          aborted = λ is. refusing.aborted fine is;
          failed = λ is. refusing.failed fine is;
          aborts = refusing.aborts;
          faults = refusing.faults;
          chunk_bytes = size;
        };
      };
      progress = raised.progress;
      takes = takes;
    }

    -- once it is taken
    pub has_opened : (i2 : PlainIsolate) → i2 ≡ record i { ends = i2.ends } → i2.ends.ring.refuses ≡ i.ends.ring.refuses → IsHanded config.base ([] ++ raised.raised) before.parts now.parts i2 p2 → AreAlike i.progress.ending i2 p2
        → HasOpened funcs config before now i2 p2
    has_opened i2 same refuses handed alike =
        subst (λ (x : PlainIsolate). HasOpened funcs config before now x p2) (sym same)
        (opened_with i2.ends (refuses ∙ raised.takes) (subst (λ (x : PlainIsolate). IsHanded config.base ([] ++ raised.raised) before.parts now.parts x p2) same handed)
        (subst (λ (x : PlainIsolate). AreAlike i.progress.ending x p2) same alike))
