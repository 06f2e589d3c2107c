-- What a fold has delivered after one more item.
use Rattle.std.proofs.Common.{◌≡◌, ℕ, suc, ◌+◌, ◌<◌, List, [], ◌∷◌, ◌++◌, length, take, drop, get_or, refl, sym, ap, subst, ◌∙◌, append-nil, append_assoc, arith}
use Rattle.std.proofs.Math.Seq.{take-suc}
use Rattle.std.proofs.lemmas.List.{take-append-drop}
use Rattle.std.specs.Prelude.{Bool, Contains, Option, Some, None, Result, Ok, Err, false}
use Rattle.std.specs.List.{AllByRecursion, slice_get}
use Rattle.attribution.proofs.FinishedFiles.{stops_add_their_files}
use Rattle.attribution.proofs.LegalNext.{nothing_follows_a_finish, starts_are_new, stops_are_of_running, running_have_not_ended}
use Rattle.attribution.proofs.Running.{running_is}
use Rattle.attribution.specs.Attribution.{AttributorParts, StandsFor, TakesEvent, ChangesCode, HasNotEnded, running_in}
use Rattle.code_event.proofs.FilesGrow.{items_add_files}
use Rattle.code_event.specs.FileLaws.{IsOpenEvent, IsOpenItem, ended_by, ended_by_event, running_after}
use Rattle.code_event.specs.ItemFile.{SessionFile, item_file, item_files, files_of}
use Rattle.code_event.specs.ItemList.{IsLegalItems}
use Rattle.code_event.specs.Seen.{seen_items}
use Rattle.code_event.specs.declared.event.CodeEvent.{CodeEvent}
use Rattle.code_event.specs.declared.event.CodeEvent.TheVariants.{Create, Move, NoOpt, Deopt, Delete, Start, Stop, Finish}
use Rattle.code_event.specs.declared.event.EventRecord.{EventRecord}
use Rattle.code_event.specs.declared.event.Options.{Options}
use Rattle.code_event.specs.declared.tick.Item.{Item}
use Rattle.code_event.specs.declared.tick.Item.TheVariants as item
use Rattle.code_event.specs.declared.tick.Tick.{Tick}
use Rattle.out_stream.specs.Parts.{Parts}
use Rattle.out_stream.specs.declared.stream.Undelivered.{Undelivered}
use Rattle.out_stream.specs.declared.stream.Undelivered.TheVariants.{Memory}
use Rattle.prof_base.specs.declared.ids.SessionId.{SessionId}
use Rattle.session_book.specs.Refused.{IsStartRefused}
use Rattle.session_book.specs.declared.refused.StartRefused.{StartRefused}
use Rattle.session_book.specs.declared.refused.StartRefused.TheVariants as start
use Rattle.item_fold.specs.Delivered.{Delivers}
use Rattle.item_fold.specs.Folding.{FoldingParts, HasFolded, Folds, FoldsEvent, FoldsStop}
use Rattle.item_fold.specs.declared.delivery.FileNote.{FileNote}
use Rattle.item_fold.proofs.Delivering.{delivers_more, delivers_same}

-- an item that ends no session adds no file
none_added : (base : ℕ) (items : List Item) (next : Item) → AllByRecursion IsOpenItem items → ended_by (running_after items) next ≡ [] → item_files base (items ++ next ∷ []) ≡ item_files base items
none_added base items next unfinished none =
    items_add_files base items next unfinished ∙ ap (λ (ns : List ℕ). item_files base items ++ files_of base (seen_items (items ++ next ∷ [])) ns) none ∙ append-nil (item_files base items)

-- an item that ends no session was taken
pub took : (old new : FoldingParts) (next : Item) (base : ℕ) (items rest : List Item) (before parts : Option Parts)
    → IsLegalItems (items ++ next ∷ rest) → ended_by (running_after items) next ≡ [] → new.attributor.book.base ≡ old.attributor.book.base → new.notes ≡ old.notes
    → (AllByRecursion IsOpenItem (items ++ next ∷ []) → StandsFor old.attributor items → StandsFor new.attributor (items ++ next ∷ []))
    → HasFolded base items (Ok tt) old before parts → HasFolded base (items ++ next ∷ []) (Ok tt) new before parts
took old new next base items rest before parts legal none same_base same_notes takes h =
    let unfinished = nothing_follows_a_finish items rest next legal in
    record {
      base_is = same_base ∙ h.base_is;
      delivers = subst (λ (n : List FileNote). Delivers (item_files base (items ++ next ∷ [])) (Ok tt) n before parts) (sym same_notes)
          (delivers_same (item_files base items) (item_files base (items ++ next ∷ [])) (Ok tt) old.notes before parts (none_added base items next unfinished none) h.delivers);
      stands = λ ok opened. takes opened (h.stands refl unfinished);
    }

-- there was no memory for an item
pub no_room : (old new : FoldingParts) (next : Item) (base : ℕ) (items : List Item) (before parts : Option Parts) → AllByRecursion IsOpenItem items
    → new.attributor.book.base ≡ old.attributor.book.base → HasFolded base items (Ok tt) old before parts → HasFolded base (items ++ next ∷ []) (Err Memory) new before parts
no_room old new next base items before parts unfinished same_base h = record {
  base_is = same_base ∙ h.base_is;
  delivers = subst (λ (files : List SessionFile). Delivers files (Err Memory) new.notes before parts) (sym (items_add_files base items next unfinished))
      (delivers_more (item_files base items) (files_of base (seen_items (items ++ next ∷ [])) (ended_by (running_after items) next)) (Ok tt) (Err Memory) old.notes new.notes before parts
      (λ e. absurd (cc e)) (λ room. absurd (room refl)) h.delivers);
  stands = λ e opened. absurd (cc e);
}

-- in a legal list no start is refused
pub never_refused : (attributor : AttributorParts) (items rest : List Item) (e : EventRecord) (s : SessionId) (options : Options) (time : ℕ) (refusal : StartRefused)
    → IsLegalItems (items ++ item.Event e ∷ rest) → e.event ≡ Start s options time → StandsFor attributor items → IsStartRefused (running_in attributor) s.0 refusal → refusal ≡ start.Memory
never_refused attributor items rest e s options time start.Memory legal is stands refused = refl
never_refused attributor items rest e s options time start.TooMany legal is stands refused =
    let may = starts_are_new items rest e s options time legal is in
    let same = ap length (running_is attributor items stands) in
    absurd (omega (arith, may.0.1, refused.1, same))
never_refused attributor items rest e s options time start.Already legal is stands refused =
    let may = starts_are_new items rest e s options time legal is in
    absurd (may.0.0 (subst (λ (ns : List ℕ). Contains ns s.0) (running_is attributor items stands) refused))

-- a stop whose file was delivered, or was not
pub stopped_next : (old mid new : FoldingParts) (s : SessionId) (time : ℕ) (text : List ℕ) (answer : Result (Unit {0}) Undelivered) (parts parts' : Option Parts)
    → TakesEvent old.attributor mid.attributor (Stop s time)
    → ((items : List Item) (e : EventRecord) → e.event ≡ Stop s time → StandsFor old.attributor items → HasNotEnded s.0 items → item_file old.attributor.book.base (items ++ item.Event e ∷ []) s ≡ Some text)
    → mid.attributor.book.base ≡ old.attributor.book.base → mid.notes ≡ old.notes → new.attributor ≡ mid.attributor
    → ((files : List SessionFile) (before : Option Parts) → Delivers files (Ok tt) mid.notes before parts → Delivers (files ++ record { session = s.0; text = text } ∷ []) answer new.notes before parts')
    → FoldsStop old parts s time answer new parts'
stopped_next old mid new s time text answer parts parts' takes file same_base same_notes same_attributor delivers base items e before is unfinished unended runs h =
    let stands = h.stands refl unfinished in
    let found : item_file base (items ++ item.Event e ∷ []) s ≡ Some text = subst (λ (b : ℕ). item_file b (items ++ item.Event e ∷ []) s ≡ Some text) h.base_is (file items e is stands unended) in
    let added = stops_add_their_files base items e s time text unfinished is found in
    record {
      base_is = ap (λ a. a.book.base) same_attributor ∙ same_base ∙ h.base_is;
      delivers = subst (λ (files : List SessionFile). Delivers files answer new.notes before parts') (sym added)
          (delivers (item_files base items) before (subst (λ (n : List FileNote). Delivers (item_files base items) (Ok tt) n before parts) (sym same_notes) h.delivers));
      stands = λ ok opened. subst (λ a. StandsFor a (items ++ item.Event e ∷ [])) (sym same_attributor) (takes items e is stands);
    }

-- a session that runs is not refused a stop
pub never_unknown : (old new : FoldingParts) (s : SessionId) (time : ℕ) (answer : Result (Unit {0}) Undelivered) (parts parts' : Option Parts) → ¬ Contains (running_in old.attributor) s.0
    → FoldsStop old parts s time answer new parts'
never_unknown old new s time answer parts parts' unknown base items e before is unfinished unended runs h =
    absurd (unknown (subst (λ (ns : List ℕ). Contains ns s.0) (sym (running_is old.attributor items (h.stands refl unfinished))) runs))

pub stop_no_room : (old new : FoldingParts) (s : SessionId) (time : ℕ) (parts : Option Parts) → new.attributor.book.base ≡ old.attributor.book.base → FoldsStop old parts s time (Err Memory) new parts
stop_no_room old new s time parts same_base base items e before is unfinished unended runs h = no_room old new (item.Event e) base items before parts unfinished same_base h

-- ---- each kind of item

no_end : (running : List ℕ) (event : CodeEvent) → ChangesCode event → ended_by_event running event ≡ []
no_end running (Create start layout) changes = refl
no_end running (Move from to) changes = refl
no_end running (NoOpt start reason) changes = refl
no_end running (Deopt start reason) changes = refl
no_end running (Delete start) changes = refl
no_end running (Start session options time) changes = absurd changes
no_end running (Stop session time) changes = absurd changes
no_end running (Finish time files) changes = absurd changes

pub folds_change : (old new : FoldingParts) (event : CodeEvent) → ChangesCode event → new.attributor.book.base ≡ old.attributor.book.base → new.notes ≡ old.notes
    → TakesEvent old.attributor new.attributor event → (parts : Option Parts) → FoldsEvent old parts event (Ok tt) new parts
folds_change old new event changes same_base same_notes takes parts e is base items rest before legal h =
    took old new (item.Event e) base items rest before parts legal (ap (ended_by_event (running_after items)) is ∙ no_end (running_after items) event changes) same_base same_notes (λ opened stands. takes items e is stands) h

pub folds_start : (old new : FoldingParts) (s : SessionId) (options : Options) (time : ℕ) → new.attributor.book.base ≡ old.attributor.book.base → new.notes ≡ old.notes
    → TakesEvent old.attributor new.attributor (Start s options time) → (parts : Option Parts) → FoldsEvent old parts (Start s options time) (Ok tt) new parts
folds_start old new s options time same_base same_notes takes parts e is base items rest before legal h =
    took old new (item.Event e) base items rest before parts legal (ap (ended_by_event (running_after items)) is) same_base same_notes (λ opened stands. takes items e is stands) h

pub folds_refused : (old new : FoldingParts) (s : SessionId) (options : Options) (time : ℕ) (refusal : StartRefused) → (refusal ≡ start.Memory → ⊥) → IsStartRefused (running_in old.attributor) s.0 refusal
    → (parts : Option Parts) → FoldsEvent old parts (Start s options time) (Ok tt) new parts
folds_refused old new s options time refusal other refused parts e is base items rest before legal h =
    absurd (other (never_refused old.attributor items rest e s options time refusal legal is (h.stands refl (nothing_follows_a_finish items rest (item.Event e) legal)) refused))

pub folds_tick : (old new : FoldingParts) (tick : Tick) → new.attributor.book.base ≡ old.attributor.book.base → new.notes ≡ old.notes
    → ((items : List Item) → StandsFor old.attributor items → StandsFor new.attributor (items ++ item.Tick tick ∷ []))
    → (parts : Option Parts) → Folds old parts (item.Tick tick) (Ok tt) new parts
folds_tick old new tick same_base same_notes takes parts base items rest before legal h =
    took old new (item.Tick tick) base items rest before parts legal refl same_base same_notes (λ opened stands. takes items stands) h

pub not_open : (items : List Item) (e : EventRecord) (time : ℕ) (files : Bool) → e.event ≡ Finish time files → AllByRecursion IsOpenItem (items ++ item.Event e ∷ []) → ⊥
not_open [] e time files is opened = subst (λ event. IsOpenEvent event) is opened.0
not_open (first ∷ items) e time files is opened = not_open items e time files is opened.1

-- a finish without files
pub folds_no_files : (old : FoldingParts) (time : ℕ) (parts : Option Parts) → FoldsEvent old parts (Finish time false) (Ok tt) old parts
folds_no_files old time parts e is base items rest before legal h =
    took old old (item.Event e) base items rest before parts legal (ap (ended_by_event (running_after items)) is) refl refl (λ opened stands. absurd (not_open items e time false is opened)) h

pub folds_memory : (old new : FoldingParts) (next : Item) → new.attributor.book.base ≡ old.attributor.book.base → (parts : Option Parts) → Folds old parts next (Err Memory) new parts
folds_memory old new next same_base parts base items rest before legal h = no_room old new next base items before parts (nothing_follows_a_finish items rest next legal) same_base h

pub folds_stop : (old new : FoldingParts) (s : SessionId) (time : ℕ) (answer : Result (Unit {0}) Undelivered) (parts parts' : Option Parts) → FoldsStop old parts s time answer new parts'
    → FoldsEvent old parts (Stop s time) answer new parts'
folds_stop old new s time answer parts parts' folds e is base items rest before legal h =
    let runs = stops_are_of_running items rest e s time legal is in
    folds base items e before is (nothing_follows_a_finish items rest (item.Event e) legal) (running_have_not_ended items rest (item.Event e) s.0 legal runs) runs h

-- the first of a list
pub first_is : (ns : List ℕ) (n : ℕ) → Some n ≡ slice_get ns 0 → (rest : List ℕ) × (ns ≡ n ∷ rest)
first_is [] n e = absurd (cc e)
first_is (m ∷ ns) n e = let same : n ≡ m = cc in (ns, ap (λ k. k ∷ ns) (sym same))

pub none_first : (ns : List ℕ) → None ≡ slice_get ns 0 → ns ≡ []
none_first [] e = refl
none_first (m ∷ ns) e = absurd (cc e)

-- ---- the items of a list, one after another

pub next_taken : (items : List Item) (at : ℕ) (x : Item) → at < length items → get_or items at x ≡ x → take (at + 1) items ≡ take at items ++ x ∷ []
next_taken items at x within is = ap (λ n. take n items) (one-more at) ∙ taken_at items at within is
  where
    one-more : (n : ℕ) → n + 1 ≡ suc n
    one-more n = omega arith

    taken_at : (xs : List Item) (n : ℕ) → n < length xs → get_or xs n x ≡ x → take (suc n) xs ≡ take n xs ++ x ∷ []
    taken_at xs n lt e = take-suc xs n x lt ∙ ap (λ y. take n xs ++ y ∷ []) e

pub next_split : (items : List Item) (at : ℕ) (x : Item) → at < length items → get_or items at x ≡ x → items ≡ take at items ++ x ∷ drop (at + 1) items
next_split items at x within is =
    sym (take-append-drop (at + 1) items) ∙ ap (λ (l : List Item). l ++ drop (at + 1) items) (next_taken items at x within is) ∙ append_assoc (take at items) (x ∷ []) (drop (at + 1) items)
