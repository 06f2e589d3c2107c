-- What has been filed after one more item.
use Rattle.std.proofs.Common.{◌≡◌, ℕ, ◌<◌, List, [], ◌∷◌, ◌++◌, length, false, refl, sym, ap, subst, ◌∙◌, append-nil, arith}
use Rattle.std.proofs.lemmas.List.{length-map}
use Rattle.std.specs.Prelude.{Option, Result, Ok, Err, OnOk, is_err}
use Rattle.std.specs.List.{AllByRecursion}
use Rattle.attribution.proofs.LegalNext.{nothing_follows_a_finish, starts_are_new}
use Rattle.attribution.specs.Attribution.{StandsFor, TakesEvent, ChangesCode}
use Rattle.code_event.proofs.FilesGrow.{items_add_files}
use Rattle.code_event.specs.CodeMap.{after_event}
use Rattle.code_event.specs.DeoptReasons.{DeoptReasons, no_reasons, reasons_after_event}
use Rattle.code_event.specs.FileLaws.{IsOpenItem, ended_by, ended_by_event, running_after, running_on as seen_running_on}
use Rattle.code_event.specs.ItemFile.{SessionFile, item_files, files_of}
use Rattle.code_event.specs.ItemList.{IsLegalItems}
use Rattle.code_event.specs.Seen.{Seen, mark, seen_behind, seen_items}
use Rattle.code_event.specs.declared.code_map.Range.{Range}
use Rattle.code_event.specs.declared.event.CodeEvent.{CodeEvent}
use Rattle.code_event.specs.declared.event.CodeEvent.TheVariants.{Create, Move, NoOpt, Deopt, Delete, Start, Stop, Finish}
use Rattle.code_event.specs.declared.event.Options.{Options}
use Rattle.code_event.specs.declared.event.TheConstants.{MAX_SESSIONS}
use Rattle.code_event.specs.declared.tick.Item.{Item}
use Rattle.code_event.specs.declared.tick.Item.TheVariants as item
use Rattle.code_event.specs.declared.tick.Tick.{Tick}
use Rattle.item_fold.specs.declared.delivery.FileNote.{FileNote}
use Rattle.out_stream.specs.Parts.{Parts}
use Rattle.prof_base.specs.Ordered.{insert_sorted}
use Rattle.prof_base.specs.declared.ids.SessionId.{SessionId}
use Rattle.processor.specs.Filing.{FilingParts, HasDelivered, HasFiled, Files, FilesEvent}
use Rattle.processor.specs.Running.{by_session, sessions_of, running_with, running_on, running_ports}
use Rattle.processor.specs.declared.running.SessionPort.{SessionPort}
use Rattle.processor.specs.declared.turn.Delivery.{Delivery}
use Rattle.processor.proofs.Delivered.{spent_later}
use Rattle.processor.proofs.RunningSessions.{sessions_put, sessions_without, running_on-append}

sessions_event : (event : CodeEvent) (why : DeoptReasons) (running : List SessionPort) (seen : List Seen)
    → seen_running_on (sessions_of running) (mark why event ++ seen) ≡ seen_running_on (sessions_of (running_with running event)) seen
sessions_event (Create start layout) why running seen = refl
sessions_event (Move from to) why running seen = refl
sessions_event (NoOpt start reason) why running seen = refl
sessions_event (Deopt start reason) why running seen = refl
sessions_event (Delete start) why running seen = refl
sessions_event (Start s options time) why running seen = ap (λ (ns : List ℕ). seen_running_on ns seen) (sym (sessions_put (record { session = s; port = options.port }) running))
sessions_event (Stop s time) why running seen = ap (λ (ns : List ℕ). seen_running_on ns seen) (sym (sessions_without s.0 running))
sessions_event (Finish time files) why running seen = refl

sessions_on : (items : List Item) (ranges : List Range) (why : DeoptReasons) (running : List SessionPort)
    → sessions_of (running_on running items) ≡ seen_running_on (sessions_of running) (seen_behind ranges why items)
sessions_on [] ranges why running = refl
sessions_on (item.Event e ∷ items) ranges why running =
    let then_ : List Range = after_event ranges e.event in
    let why' : DeoptReasons = reasons_after_event ranges why e.event in
    sessions_on items then_ why' (running_with running e.event) ∙ sym (sessions_event e.event why running (seen_behind then_ why' items))
sessions_on (item.Tick t ∷ items) ranges why running = sessions_on items ranges why running

-- they are the sessions that run after what is seen of the items
pub sessions_after : (items : List Item) → sessions_of (running_ports items) ≡ running_after items
sessions_after items = sessions_on items [] no_reasons []

pub running_next : (old new : List SessionPort) (items : List Item) (next : Item) → old ≡ running_ports items → new ≡ running_on old (next ∷ []) → new ≡ running_ports (items ++ next ∷ [])
running_next old new items next was now = now ∙ ap (λ (rs : List SessionPort). running_on rs (next ∷ [])) was ∙ sym (running_on-append items (next ∷ []) [])

pub none_added : (base : ℕ) (items : List Item) (next : Item) → AllByRecursion IsOpenItem items → ended_by (running_after items) next ≡ [] → item_files base (items ++ next ∷ []) ≡ item_files base items
none_added base items next unfinished none =
    items_add_files base items next unfinished ∙ ap (λ ns. item_files base items ++ files_of base (seen_items (items ++ next ∷ [])) ns) none ∙ append-nil (item_files base items)

-- an item that ends no session
pub filed_next : (old new : FilingParts) (next : Item) (base : ℕ) (items : List Item) (before parts : Option Parts) → IsLegalItems (items ++ next ∷ []) → ended_by (running_after items) next ≡ []
    → new.attributor.book.base ≡ old.attributor.book.base → new.notes ≡ old.notes → new.delivery ≡ old.delivery → (new.is_spent ≡ false → old.is_spent ≡ false) → new.running ≡ running_on old.running (next ∷ [])
    → (new.is_spent ≡ false → StandsFor old.attributor items → StandsFor new.attributor (items ++ next ∷ []))
    → HasFiled base items old before parts → HasFiled base (items ++ next ∷ []) new before parts
filed_next old new next base items before parts legal none same_base same_notes same_delivery later running takes h =
    let unfinished = nothing_follows_a_finish items [] next legal in
    record {
      base_is = same_base ∙ h.base_is;
      running_is = running_next old.running new.running items next h.running_is running;
      delivered = subst (λ (fs : List SessionFile). HasDelivered fs new.delivery new.is_spent new.notes before parts) (sym (none_added base items next unfinished none))
          (subst (λ (d : Delivery). HasDelivered (item_files base items) d new.is_spent new.notes before parts) (sym same_delivery)
          (subst (λ (ns : List FileNote). HasDelivered (item_files base items) old.delivery new.is_spent ns before parts) (sym same_notes)
          (spent_later (item_files base items) old.delivery old.is_spent new.is_spent old.notes before parts later h.delivered)));
      stands = λ room opened. takes room (h.stands (later room) unfinished);
    }

pub files_tick : (old new : FilingParts) (tick : Tick) → new.attributor.book.base ≡ old.attributor.book.base → new.notes ≡ old.notes → new.delivery ≡ old.delivery
    → (new.is_spent ≡ false → old.is_spent ≡ false) → new.running ≡ old.running
    → (new.is_spent ≡ false → (items : List Item) → StandsFor old.attributor items → StandsFor new.attributor (items ++ item.Tick tick ∷ []))
    → (parts : Option Parts) → Files old parts (item.Tick tick) new parts
files_tick old new tick same_base same_notes same_delivery later running takes parts base items before legal h =
    filed_next old new (item.Tick tick) base items before parts legal refl same_base same_notes same_delivery later running (λ room. takes room items) h

no_end : (running : List ℕ) (event : CodeEvent) → ChangesCode event → ended_by_event running event ≡ []
no_end running (Create start layout) changes = refl
no_end running (Move from to) changes = refl
no_end running (NoOpt start reason) changes = refl
no_end running (Deopt start reason) changes = refl
no_end running (Delete start) changes = refl
no_end running (Start session options time) changes = absurd changes
no_end running (Stop session time) changes = absurd changes
no_end running (Finish time files) changes = absurd changes

same_running : (running : List SessionPort) (event : CodeEvent) → ChangesCode event → running_with running event ≡ running
same_running running (Create start layout) changes = refl
same_running running (Move from to) changes = refl
same_running running (NoOpt start reason) changes = refl
same_running running (Deopt start reason) changes = refl
same_running running (Delete start) changes = refl
same_running running (Start session options time) changes = absurd changes
same_running running (Stop session time) changes = absurd changes
same_running running (Finish time files) changes = absurd changes

pub files_change : (old new : FilingParts) (event : CodeEvent) → ChangesCode event → new.attributor.book.base ≡ old.attributor.book.base → new.notes ≡ old.notes → new.delivery ≡ old.delivery
    → (new.is_spent ≡ false → old.is_spent ≡ false) → new.running ≡ old.running → (new.is_spent ≡ false → TakesEvent old.attributor new.attributor event)
    → (parts : Option Parts) → FilesEvent old parts event new parts
files_change old new event changes same_base same_notes same_delivery later running takes parts e is base items before legal h =
    filed_next old new (item.Event e) base items before parts legal (ap (ended_by_event (running_after items)) is ∙ no_end (running_after items) event changes) same_base same_notes same_delivery later
    (running ∙ sym (ap (running_with old.running) is ∙ same_running old.running event changes)) (λ room. takes room items e is) h

pub files_start : (old new : FilingParts) (s : SessionId) (options : Options) (time : ℕ) → new.attributor.book.base ≡ old.attributor.book.base → new.notes ≡ old.notes → new.delivery ≡ old.delivery
    → (new.is_spent ≡ false → old.is_spent ≡ false) → (length old.running < MAX_SESSIONS → new.running ≡ insert_sorted by_session (record { session = s; port = options.port }) old.running)
    → (new.is_spent ≡ false → TakesEvent old.attributor new.attributor (Start s options time))
    → (parts : Option Parts) → FilesEvent old parts (Start s options time) new parts
files_start old new s options time same_base same_notes same_delivery later running takes parts e is base items before legal h =
    let may = starts_are_new items [] e s options time legal is in
    let same : length old.running ≡ length (running_after items) = sym (length-map old.running (λ r. r.session.0)) ∙ ap length (ap sessions_of h.running_is ∙ sessions_after items) in
    filed_next old new (item.Event e) base items before parts legal (ap (ended_by_event (running_after items)) is) same_base same_notes same_delivery later
    (running (omega (arith, may.0.1, same)) ∙ sym (ap (running_with old.running) is)) (λ room. takes room items e is) h

-- what holds of an answer that is no error
pub of_ok : {T E P : Type 0} (r : Result T E) → is_err r ≡ false → OnOk r P → P
of_ok (Ok value) right holds = holds
of_ok (Err fault) right holds = absurd (cc right)
