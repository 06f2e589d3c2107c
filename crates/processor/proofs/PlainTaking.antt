-- What was taken from queues that hold what follows.
use Rattle.std.proofs.Common.{◌≡◌, ℕ, List, [], ◌∷◌, ◌++◌, subst, sym, ap, ◌∙◌, append-nil, append_assoc}
use Rattle.std.specs.Option.{option_to_list}
use Rattle.std.specs.Prelude.{Option, Some, None, option_map, true}
use Rattle.code_event.specs.declared.event.EventRecord.{EventRecord}
use Rattle.code_event.specs.declared.tick.Item.{Item}
use Rattle.code_event.specs.declared.tick.Tick.{Tick}
use Rattle.pipe_core.specs.Observed.{IfThere, first_of}
use Rattle.pipe_core.specs.Stamps.{event_stamp, tick_stamp}
use Rattle.pipe_core.specs.declared.stamp.Stamp.{Stamp}
use Rattle.out_stream.specs.Parts.{Parts}
use Rattle.processor.specs.Course.{CourseParts, StandsFor}
use Rattle.processor.specs.Plain.{GoesOn}
use Rattle.processor.specs.Taking.{HasTaken, is_next, applied_with, ticked_with, LosesEvent, LosesTick, ShowsNoNext}
use Rattle.processor.specs.TakingLaws.{HoldRest}
use Rattle.processor.proofs.Taking.{taking_adds_the_next, nothing_is_left, the_next_is_the_first_of_the_rest}

pub took_nothing : (taken : Option Item) (applied ticked : ℕ) (events : List EventRecord) (vm_ticks ring : List Tick) (event vm_tick : Option Stamp) (sample : Option Tick)
    → IfThere taken (ShowsNoNext applied ticked event vm_tick (option_map tick_stamp sample)) (λ _. Unit {0})
    → IfThere taken (event ≡ option_map event_stamp (first_of events)) (λ _. Unit {0}) → IfThere taken (vm_tick ≡ option_map tick_stamp (first_of vm_ticks)) (λ _. Unit {0})
    → IfThere taken (sample ≡ first_of ring) (λ _. Unit {0})
    → IfThere taken ((items rest : List Item) → HasTaken applied ticked items → HoldRest items rest events vm_ticks ring → rest ≡ []) (λ _. Unit {0})
took_nothing None applied ticked events vm_ticks ring event vm_tick sample none event_is vm_tick_is sample_is = λ items rest has hold.
    nothing_is_left applied ticked items rest events vm_ticks ring has hold
    (subst (λ s. ShowsNoNext applied ticked (option_map event_stamp (first_of events)) (option_map tick_stamp (first_of vm_ticks)) s) (ap (option_map tick_stamp) sample_is)
    (subst (λ v. ShowsNoNext applied ticked (option_map event_stamp (first_of events)) v (option_map tick_stamp sample)) vm_tick_is
    (subst (λ e. ShowsNoNext applied ticked e vm_tick (option_map tick_stamp sample)) event_is none)))
took_nothing (Some x) applied ticked events vm_ticks ring event vm_tick sample none event_is vm_tick_is sample_is = tt

pub took_first : (taken : Option Item) (applied ticked : ℕ) (events events' : List EventRecord) (vm_ticks vm_ticks' ring ring' : List Tick)
    → IfThere taken (Unit {0}) (λ x. is_next applied ticked x ≡ true) → IfThere taken (Some events' ≡ Some events) (λ x. LosesEvent (Some events) (Some events') x)
    → IfThere taken (Unit {0}) (λ x. LosesTick (Some vm_ticks) (Some vm_ticks') (Some ring) (Some ring') x)
    → IfThere taken (Unit {0}) (λ x. (items rest : List Item) → HasTaken applied ticked items → HoldRest items rest events vm_ticks ring
    → (rest' : List Item) × (rest ≡ x ∷ rest') × HoldRest (items ++ x ∷ []) rest' events' vm_ticks' ring')
took_first None applied ticked events events' vm_ticks vm_ticks' ring ring' next lost kept = tt
took_first (Some x) applied ticked events events' vm_ticks vm_ticks' ring ring' next lost kept = λ items rest has hold.
    the_next_is_the_first_of_the_rest applied ticked items rest x events events' vm_ticks vm_ticks' ring ring' has next hold lost kept

pub took_it : (taken : Option Item) (applied ticked applied' ticked' : ℕ)
    → IfThere taken (Unit {0}) (λ x. is_next applied ticked x ≡ true) → IfThere taken (applied' ≡ applied) (λ x. applied' ≡ applied_with applied x) → IfThere taken (ticked' ≡ ticked) (λ x. ticked' ≡ ticked_with ticked x)
    → IfThere taken (Unit {0}) (λ x. (items : List Item) → HasTaken applied ticked items → HasTaken applied' ticked' (items ++ x ∷ []))
took_it None applied ticked applied' ticked' next applied_is ticked_is = tt
took_it (Some x) applied ticked applied' ticked' next applied_is ticked_is = λ items has.
    subst (λ n. HasTaken n ticked' (items ++ x ∷ [])) (sym applied_is)
    (subst (λ n. HasTaken (applied_with applied x) n (items ++ x ∷ [])) (sym ticked_is) (taking_adds_the_next applied ticked items x has next))

-- the processor and the queues after a turn
pub turned : (taken : Option Item) (base : ℕ) (items rest : List Item) (applied ticked applied' ticked' : ℕ) (course : CourseParts) (before now : Option Parts)
    (events events' : List EventRecord) (vm_ticks vm_ticks' ring ring' : List Tick) → HasTaken applied ticked items
    → IfThere taken (Unit {0}) (λ x. is_next applied ticked x ≡ true) → IfThere taken (Some events' ≡ Some events) (λ x. LosesEvent (Some events) (Some events') x)
    → IfThere taken ((Some vm_ticks' ≡ Some vm_ticks) × (Some ring' ≡ Some ring)) (λ x. LosesTick (Some vm_ticks) (Some vm_ticks') (Some ring) (Some ring') x)
    → StandsFor base (items ++ option_to_list taken) applied' ticked' course before now → HoldRest items rest events vm_ticks ring
    → GoesOn base (items ++ rest) applied' ticked' course before now events' vm_ticks' ring'
turned None base items rest applied ticked applied' ticked' course before now events events' vm_ticks vm_ticks' ring ring' has next lost kept stands hold =
    let same_events : events' ≡ events = cc lost in
    let same_vm_ticks : vm_ticks' ≡ vm_ticks = cc (kept.0) in
    let same_ring : ring' ≡ ring = cc (kept.1) in
    record {
      items = items ++ [];
      rest = rest;
      all = ap (λ (l : List Item). l ++ rest) (append-nil items);
      stands = stands;
      hold = subst (λ (l : List Item). HoldRest l rest events' vm_ticks' ring') (sym (append-nil items))
          (subst (λ e. HoldRest items rest e vm_ticks' ring') (sym same_events)
          (subst (λ v. HoldRest items rest events v ring') (sym same_vm_ticks) (subst (λ r. HoldRest items rest events vm_ticks r) (sym same_ring) hold)));
    }
turned (Some x) base items rest applied ticked applied' ticked' course before now events events' vm_ticks vm_ticks' ring ring' has next lost kept stands hold =
    let first = the_next_is_the_first_of_the_rest applied ticked items rest x events events' vm_ticks vm_ticks' ring ring' has next hold lost kept in
    record {
      items = items ++ x ∷ [];
      rest = first.0;
      all = append_assoc items (x ∷ []) first.0 ∙ ap (λ (l : List Item). items ++ l) (sym first.1);
      stands = stands;
      hold = first.2;
    }
