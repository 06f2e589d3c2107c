-- What has been filed, and given to a port, after a session was stopped.
use Rattle.std.proofs.Common.{◌≡◌, ℕ, List, [], ◌∷◌, ◌++◌, Bool, true, false, refl, sym, ap, subst, ◌∙◌}
use Rattle.std.specs.Prelude.{Option, Some}
use Rattle.attribution.proofs.FinishedFiles.{stops_add_their_files}
use Rattle.attribution.specs.Attribution.{StandsFor, TakesEvent, HasNotEnded}
use Rattle.code_event.proofs.FilesGrow.{items_add_files}
use Rattle.code_event.specs.FileLaws.{ended_by, running_after}
use Rattle.code_event.specs.ItemFile.{SessionFile, item_file, item_files, files_of}
use Rattle.code_event.specs.Seen.{seen_items}
use Rattle.code_event.specs.declared.event.CodeEvent.TheVariants.{Stop}
use Rattle.code_event.specs.declared.event.EventRecord.{EventRecord}
use Rattle.code_event.specs.declared.tick.Item.{Item}
use Rattle.code_event.specs.declared.tick.Item.TheVariants as item
use Rattle.item_fold.specs.declared.delivery.FileNote.{FileNote}
use Rattle.out_stream.specs.Parts.{Parts}
use Rattle.prof_base.specs.declared.ids.SessionId.{SessionId}
use Rattle.processor.specs.Filing.{FilingParts, HasDelivered, HasFiled, AtStop}
use Rattle.processor.specs.Running.{running_with, without_session}
use Rattle.processor.specs.declared.turn.Delivery.{Delivery}
use Rattle.processor.proofs.Delivered.{spent_later, lost_spent}
use Rattle.processor.proofs.FiledItems.{running_next}

-- the text is that of the session's file, whatever items the filing has taken
abbrev pub IsTextOf : FilingParts → SessionId → ℕ → List ℕ → Type 0
IsTextOf old s time text =
    (items : List Item) (e : EventRecord) → e.event ≡ Stop s time → StandsFor old.attributor items → HasNotEnded s.0 items → item_file old.attributor.book.base (items ++ item.Event e ∷ []) s ≡ Some text

text_found : (old : FilingParts) (s : SessionId) (time : ℕ) (text : List ℕ) (parts : Option Parts) → old.is_spent ≡ false → IsTextOf old s time text
    → AtStop old parts s time (λ base items before. item_file base items s ≡ Some text)
text_found old s time text parts room found base items e before is unfinished unended runs h =
    subst (λ (b : ℕ). item_file b (items ++ item.Event e ∷ []) s ≡ Some text) h.base_is (found items e is (h.stands room unfinished) unended)

-- its file was delivered, or was not
pub stopped_whole : (old mid new : FilingParts) (s : SessionId) (time : ℕ) (text : List ℕ) (parts parts' : Option Parts) → old.is_spent ≡ false
    → new.running ≡ without_session s.0 old.running → new.attributor.book.base ≡ old.attributor.book.base → TakesEvent old.attributor new.attributor (Stop s time) → IsTextOf old s time text
    → new.notes ≡ mid.notes → new.delivery ≡ mid.delivery → (new.is_spent ≡ false → mid.is_spent ≡ false)
    → ((files : List SessionFile) (before : Option Parts) → HasDelivered files old.delivery false old.notes before parts
    → HasDelivered (files ++ record { session = s.0; text = text } ∷ []) mid.delivery mid.is_spent mid.notes before parts')
    → AtStop old parts s time (λ base items before. HasFiled base items new before parts')
stopped_whole old mid new s time text parts parts' room running same_base takes found same_notes same_delivery later delivers base items e before is unfinished unended runs h =
    let whole : List SessionFile = item_files base items ++ record { session = s.0; text = text } ∷ [] in
    let added : item_files base (items ++ item.Event e ∷ []) ≡ whole =
    stops_add_their_files base items e s time text unfinished is (text_found old s time text parts room found base items e before is unfinished unended runs h) in
    let had = delivers (item_files base items) before (subst (λ r. HasDelivered (item_files base items) old.delivery r old.notes before parts) room h.delivered) in
    record {
      base_is = same_base ∙ h.base_is;
      running_is = running_next old.running new.running items (item.Event e) h.running_is (running ∙ sym (ap (running_with old.running) is));
      delivered = subst (λ (fs : List SessionFile). HasDelivered fs new.delivery new.is_spent new.notes before parts') (sym added)
          (subst (λ (d : Delivery). HasDelivered whole d new.is_spent new.notes before parts') (sym same_delivery)
          (subst (λ (ns : List FileNote). HasDelivered whole mid.delivery new.is_spent ns before parts') (sym same_notes)
          (spent_later whole mid.delivery mid.is_spent new.is_spent mid.notes before parts' later had)));
      stands = λ still opened. takes items e is (h.stands room unfinished);
    }

-- its file was lost
pub stopped_lost : (old new : FilingParts) (s : SessionId) (time : ℕ) (parts : Option Parts) → new.is_spent ≡ true
    → new.running ≡ without_session s.0 old.running → new.attributor.book.base ≡ old.attributor.book.base → new.notes ≡ old.notes → new.delivery ≡ old.delivery
    → AtStop old parts s time (λ base items before. HasFiled base items new before parts)
stopped_lost old new s time parts spent running same_base same_notes same_delivery base items e before is unfinished unended runs h =
    let lost : List SessionFile = files_of base (seen_items (items ++ item.Event e ∷ [])) (ended_by (running_after items) (item.Event e)) in
    record {
      base_is = same_base ∙ h.base_is;
      running_is = running_next old.running new.running items (item.Event e) h.running_is (running ∙ sym (ap (running_with old.running) is));
      delivered = subst (λ (fs : List SessionFile). HasDelivered fs new.delivery new.is_spent new.notes before parts) (sym (items_add_files base items (item.Event e) unfinished))
          (subst (λ (d : Delivery). HasDelivered (item_files base items ++ lost) d new.is_spent new.notes before parts) (sym same_delivery)
          (subst (λ (ns : List FileNote). HasDelivered (item_files base items ++ lost) old.delivery new.is_spent ns before parts) (sym same_notes)
          (lost_spent (item_files base items) lost old.delivery old.is_spent new.is_spent old.notes before parts spent h.delivered)));
      stands = λ room opened. absurd (cc (spent, room));
    }

-- there was memory before, where there is later
pub room_before : (was is : Bool) → (was ≡ true → is ≡ true) → is ≡ false → was ≡ false
room_before true is stays room = absurd (cc (stays refl, room))
room_before false is stays room = refl

-- the same of a delivery that the filing had before
pub delivered_of : (files : List SessionFile) (delivery delivery' : Delivery) (notes notes' : List FileNote) (before now : Option Parts) → delivery' ≡ delivery → notes' ≡ notes
    → HasDelivered files delivery false notes before now → HasDelivered files delivery' false notes' before now
delivered_of files delivery delivery' notes notes' before now same_delivery same_notes h =
    subst (λ d. HasDelivered files d false notes' before now) (sym same_delivery) (subst (λ ns. HasDelivered files delivery false ns before now) (sym same_notes) h)
