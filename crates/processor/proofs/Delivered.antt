-- How what has been delivered grows with the files of sessions that end.
use Rattle.std.proofs.Common.{◌≡◌, List, [], ◌∷◌, ◌++◌, Bool, true, false, refl, sym, ap, subst, ◌∙◌}
use Rattle.std.specs.Prelude.{Option, Ok, Err}
use Rattle.code_event.specs.ItemFile.{SessionFile}
use Rattle.item_fold.proofs.Delivering.{delivers_more, delivered_next, cut_next}
use Rattle.item_fold.specs.Delivered.{Delivers, note_of}
use Rattle.item_fold.specs.declared.delivery.FileNote.{FileNote}
use Rattle.out_stream.specs.Parts.{Parts, closed, grown, GrowsByPrefix}
use Rattle.out_stream.specs.declared.stream.Undelivered.{Undelivered}
use Rattle.out_stream.specs.declared.stream.Undelivered.TheVariants as undelivered
use Rattle.processor.specs.Filing.{answer_of, HasDelivered}
use Rattle.processor.specs.declared.turn.Delivery.{Delivery}
use Rattle.processor.specs.declared.turn.Delivery.TheVariants.{Fine, Aborted, Failed}

-- if all files are delivered where memory may have run out, they were before
ok_before : (delivery : Delivery) (was is : Bool) → (is ≡ false → was ≡ false) → answer_of delivery is ≡ Ok tt → answer_of delivery was ≡ Ok tt
ok_before Fine was true later ok = absurd (cc ok)
ok_before Fine true false later ok = absurd (cc (later refl))
ok_before Fine false false later ok = refl
ok_before Aborted was is later ok = absurd (cc ok)
ok_before Failed was is later ok = absurd (cc ok)

-- memory may run out when all is delivered
pub spent_later : (files : List SessionFile) (delivery : Delivery) (was is : Bool) (notes : List FileNote) (before now : Option Parts) → (is ≡ false → was ≡ false)
    → HasDelivered files delivery was notes before now → HasDelivered files delivery is notes before now
spent_later files delivery was is notes before now later h = record {
  delivers = record {
    number = h.delivers.number;
    within = h.delivers.within;
    parts = h.delivers.parts;
    all = λ ok. h.delivers.all (ok_before delivery was is later ok);
    notes_are = λ room. h.noted;
  };
  noted = h.noted;
}

-- files that are not delivered
pub lost_more : (files added : List SessionFile) (delivery : Delivery) (was is : Bool) (notes : List FileNote) (before now : Option Parts) → ¬ (answer_of delivery is ≡ Ok tt)
    → HasDelivered files delivery was notes before now → HasDelivered (files ++ added) delivery is notes before now
lost_more files added delivery was is notes before now wrong h =
    let refused : Delivers files (Err undelivered.Aborted) notes before now = record {
      number = h.delivers.number;
      within = h.delivers.within;
      parts = h.delivers.parts;
      all = λ ok. absurd (cc ok);
      notes_are = λ room. h.noted;
    } in
    let more = delivers_more files added (Err undelivered.Aborted) (Err undelivered.Aborted) notes notes before now (λ ok. absurd (cc ok)) (λ room. (room, refl)) refused in
    let noted = more.notes_are (λ e. absurd (cc e)) in
    record {
      delivers = record {
        number = more.number;
        within = more.within;
        parts = more.parts;
        all = λ ok. absurd (wrong ok);
        notes_are = λ room. noted;
      };
      noted = noted;
    }

not_all : (delivery : Delivery) (is : Bool) → ¬ (delivery ≡ Fine) → ¬ (answer_of delivery is ≡ Ok tt)
not_all Fine is other ok = other refl
not_all Aborted is other ok = absurd (cc ok)
not_all Failed is other ok = absurd (cc ok)

spent_not_all : (delivery : Delivery) (is : Bool) → is ≡ true → ¬ (answer_of delivery is ≡ Ok tt)
spent_not_all Fine true spent ok = absurd (cc ok)
spent_not_all Fine false spent ok = absurd (cc spent)
spent_not_all Aborted is spent ok = absurd (cc ok)
spent_not_all Failed is spent ok = absurd (cc ok)

-- memory had run out
pub lost_spent : (files added : List SessionFile) (delivery : Delivery) (was is : Bool) (notes : List FileNote) (before now : Option Parts) → is ≡ true
    → HasDelivered files delivery was notes before now → HasDelivered (files ++ added) delivery is notes before now
lost_spent files added delivery was is notes before now spent = lost_more files added delivery was is notes before now (spent_not_all delivery is spent)

-- the stream had refused something
pub lost_refused : (files added : List SessionFile) (delivery : Delivery) (was is : Bool) (notes : List FileNote) (before now : Option Parts) → ¬ (delivery ≡ Fine)
    → HasDelivered files delivery was notes before now → HasDelivered (files ++ added) delivery is notes before now
lost_refused files added delivery was is notes before now other = lost_more files added delivery was is notes before now (not_all delivery is other)

pub next_delivered : (files : List SessionFile) (file : SessionFile) (notes notes' : List FileNote) (before old new : Option Parts) → new ≡ closed (grown old file.text)
    → notes' ≡ notes ++ note_of file ∷ [] → HasDelivered files Fine false notes before old → HasDelivered (files ++ file ∷ []) Fine false notes' before new
next_delivered files file notes notes' before old new whole noted h =
    let next = delivered_next files file (Ok tt) notes notes' before old new whole (λ room. noted) h.delivers in
    record { delivers = next; noted = next.notes_are (λ e. absurd (cc e)) }

pub next_cut : (files : List SessionFile) (file : SessionFile) (fault : Undelivered) (delivery : Delivery) (is : Bool) (notes : List FileNote) (before old new : Option Parts)
    → answer_of delivery is ≡ Err fault → GrowsByPrefix old new file.text → HasDelivered files Fine false notes before old → HasDelivered (files ++ file ∷ []) delivery is notes before new
next_cut files file fault delivery is notes before old new answer grows h =
    let cut = cut_next files file undelivered.Aborted notes before old new grows h.delivers in
    let noted = cut.notes_are (λ e. absurd (cc e)) in
    record {
      delivers = record {
        number = cut.number;
        within = cut.within;
        parts = cut.parts;
        all = λ ok. absurd (cc (sym answer ∙ ok));
        notes_are = λ room. noted;
      };
      noted = noted;
    }

-- ---- the file of a session that ended, by what the stream answered

pub sent_whole : (files : List SessionFile) (file : SessionFile) (was is : Delivery) (spent spent' : Bool) (notes notes' : List FileNote) (before old new : Option Parts)
    → was ≡ Fine → is ≡ was → spent ≡ false → spent' ≡ spent → notes' ≡ notes ++ note_of file ∷ [] → new ≡ closed (grown old file.text)
    → HasDelivered files was false notes before old → HasDelivered (files ++ file ∷ []) is spent' notes' before new
sent_whole files file was is spent spent' notes notes' before old new fine same room same_room noted whole h =
    subst (λ d. HasDelivered (files ++ file ∷ []) d spent' notes' before new) (sym (same ∙ fine))
    (subst (λ s. HasDelivered (files ++ file ∷ []) Fine s notes' before new) (sym (same_room ∙ room))
    (next_delivered files file notes notes' before old new whole noted (subst (λ d. HasDelivered files d false notes before old) fine h)))

pub sent_cut : (files : List SessionFile) (file : SessionFile) (fault : Undelivered) (was is : Delivery) (spent : Bool) (notes notes' : List FileNote) (before old new : Option Parts)
    → was ≡ Fine → answer_of is spent ≡ Err fault → notes' ≡ notes → GrowsByPrefix old new file.text
    → HasDelivered files was false notes before old → HasDelivered (files ++ file ∷ []) is spent notes' before new
sent_cut files file fault was is spent notes notes' before old new fine answer noted grows h =
    subst (λ ns. HasDelivered (files ++ file ∷ []) is spent ns before new) (sym noted)
    (next_cut files file fault is spent notes before old new answer grows (subst (λ d. HasDelivered files d false notes before old) fine h))

pub not_sent : (files added : List SessionFile) (was : Delivery) (spent : Bool) (notes : List FileNote) (before now : Option Parts) → ¬ (was ≡ Fine)
    → HasDelivered files was false notes before now → HasDelivered (files ++ added) was spent notes before now
not_sent files added was spent notes before now other h = lost_refused files added was false spent notes before now other h

pub memory_answer : (delivery : Delivery) → delivery ≡ Fine → answer_of delivery true ≡ Err undelivered.Memory
memory_answer delivery fine = ap (λ d. answer_of d true) fine
