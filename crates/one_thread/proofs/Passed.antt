-- What an isolate's queues hold after a turn, and what a processor that takes it has done.
use Rattle.std.proofs.Common.{◌≡◌, ℕ, ◌≤◌, List, [], ◌++◌, length, refl, ap, sym, subst, ◌∙◌, append-nil}
use Rattle.std.specs.Prelude.{Option, Some, None}
use Rattle.guest_program.specs.declared.instr.Func.{Func}
use Rattle.code_event.specs.ItemList.{IsStamped, IsLegalItems}
use Rattle.code_event.specs.declared.event.EventRecord.{EventRecord}
use Rattle.code_event.specs.declared.tick.Item.{Item}
use Rattle.code_event.specs.declared.tick.Tick.{Tick}
use Rattle.out_stream.specs.Parts.{Parts}
use Rattle.pipe_core.specs.CoreOrder.{IsJoined}
use Rattle.pipe_core.specs.Stamps.{events_of, ticks_of}
use Rattle.run_schedule.specs.declared.schedule.EndCause.{EndCause}
use Rattle.isolate_acts.specs.Progress.{Moment, Progress}
use Rattle.isolate_acts.specs.Stands.{StandsAt}
use Rattle.isolate_ends.specs.Queues.{GotMore, with_all}
use Rattle.processor.specs.Course.{CourseParts}
use Rattle.processor.specs.Plain.{GoesOn}
use Rattle.processor.specs.Settling.{IsAmid, IsSettled}
use Rattle.processor.specs.TakingLaws.{HoldRest}
use Rattle.one_thread.specs.UnderWay.{AreEmpty}
use Rattle.one_thread.proofs.Offered.{hits_in, joined_hits}
use Rattle.one_thread.proofs.Rings.{none_raised}

pub stamped_at : (ending : Option EndCause) (funcs : List Func) (moment : Moment) (p : Progress) (raised : List Item) → StandsAt ending funcs moment p raised → IsStamped raised
stamped_at None funcs moment p raised stands = stands.raised_is.stamped
stamped_at (Some cause) funcs moment p raised stands = stands.stamped

pub legal_at : (ending : Option EndCause) (funcs : List Func) (moment : Moment) (p : Progress) (raised : List Item) → StandsAt ending funcs moment p raised → IsLegalItems raised
legal_at None funcs moment p raised stands = stands.raised_is.legal
legal_at (Some cause) funcs moment p raised stands = stands.legal

same_some : {A : Type 0} (xs ys : List A) → Some xs ≡ Some ys → xs ≡ ys
same_some xs ys same = cc

-- a queue that held nothing holds what was put in
only_more : {A : Type 0} (xs xs' more : List A) → xs ≡ [] → Some xs' ≡ with_all (Some xs) more → xs' ≡ more
only_more {A} xs xs' more none got = same_some xs' (xs ++ more) got ∙ ap (λ (l : List A). l ++ more) none

module _ (more : List Item) (events events' : List EventRecord) (vm_ticks vm_ticks' ring ring' : List Tick) (none : AreEmpty events vm_ticks ring)
    (got : GotMore (record { events = Some events; vm_ticks = Some vm_ticks; ring = Some ring }) (record { events = Some events'; vm_ticks = Some vm_ticks'; ring = Some ring' }) more) where
  joined_more : IsJoined vm_ticks' ring' (ticks_of more)
  joined_more =
      subst (λ (l : List Tick). IsJoined l ring' (ticks_of more)) (sym (only_more vm_ticks vm_ticks' got.vm_more none.no_vm_tick got.vm_ticks))
      (subst (λ (l : List Tick). IsJoined got.vm_more l (ticks_of more)) (sym (only_more ring ring' got.ring_more none.no_sample got.ring)) got.joined)

  -- queues that held nothing hold what was raised
  pub hold_more : (raised : List Item) → IsStamped (raised ++ more) → HoldRest raised more events' vm_ticks' ring'
  hold_more raised stamped = record { stamped = stamped; events_are = only_more events events' (events_of more) none.no_event got.events; ticks_are = joined_more }

  -- the ring holds as many ticks as hits were raised
  pub hits_more : hits_in (ticks_of more) ≡ length ring'
  hits_more =
      joined_hits got.vm_more got.ring_more (ticks_of more) got.no_hits got.hits got.joined ∙ sym (ap length (only_more ring ring' got.ring_more none.no_sample got.ring))

-- queues that hold the rest of nothing hold nothing
pub empty_rest : (items : List Item) (events : List EventRecord) (vm_ticks ring : List Tick) → HoldRest items [] events vm_ticks ring → AreEmpty events vm_ticks ring
empty_rest items events vm_ticks ring hold = record { no_event = hold.events_are; no_vm_tick = hold.ticks_are.0; no_sample = hold.ticks_are.1 }

-- queues that hold nothing hold the rest only where that is nothing
pub none_rest : (items more : List Item) (events : List EventRecord) (vm_ticks ring : List Tick) → HoldRest items more events vm_ticks ring → AreEmpty events vm_ticks ring → more ≡ []
none_rest items more events vm_ticks ring hold none = none_raised more vm_ticks ring (sym hold.events_are ∙ none.no_event) none.no_vm_tick none.no_sample hold.ticks_are

-- a processor that has taken all, and whose queues hold what was raised since, is at work on both
module _ (base : ℕ) (raised more : List Item) (applied ticked : ℕ) (course : CourseParts) (before now : Option Parts) (events had_events : List EventRecord) (vm_ticks had_vm_ticks ring had_ring : List Tick)
    (settled : IsSettled base raised applied ticked course before now had_events had_vm_ticks had_ring) (hold : HoldRest raised more events vm_ticks ring) where
  pub goes_on : GoesOn base (raised ++ more) applied ticked course before now events vm_ticks ring
  goes_on = record { items = raised; rest = more; all = refl; stands = settled.stands; hold = hold }

  pub amid : IsLegalItems (raised ++ more) → IsAmid base applied ticked course now events vm_ticks ring
  amid legal = record { whole = raised ++ more; before = before; legal = legal; on = goes_on }

  -- where nothing was raised since, all is taken
  pub still_settled : AreEmpty events vm_ticks ring → IsSettled base (raised ++ more) applied ticked course before now had_events had_vm_ticks had_ring
  still_settled none =
      let same : raised ≡ raised ++ more = sym (append-nil raised) ∙ ap (λ (l : List Item). raised ++ l) (sym (none_rest raised more events vm_ticks ring hold none)) in
      subst (λ (l : List Item). IsSettled base l applied ticked course before now had_events had_vm_ticks had_ring) same settled
