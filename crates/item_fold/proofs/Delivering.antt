-- How what has been delivered grows with one more file.
use Rattle.std.proofs.Common.{◌≡◌, ◌≢◌, ℕ, zero, suc, ◌≤◌, List, [], ◌∷◌, ◌++◌, length, map, take, refl, sym, ap, ap₂, subst, ◌∙◌, append_assoc, arith}
use Rattle.std.proofs.lemmas.List.{take-append-le, take_all, length-append, map-append}
use Rattle.std.specs.Prelude.{Option, Some, None, option_map, IfSome, Result, Ok, Err}
use Rattle.prof_base.specs.Prefix.{IsPrefix}
use Rattle.code_event.specs.ItemFile.{SessionFile}
use Rattle.out_stream.specs.AddedParts.{text_at, AddsParts}
use Rattle.out_stream.specs.Parts.{Parts, grown, closed, GrowsByPrefix}
use Rattle.out_stream.specs.declared.stream.Undelivered.{Undelivered}
use Rattle.out_stream.specs.declared.stream.Undelivered.TheVariants.{Memory}
use Rattle.item_fold.specs.Delivered.{note_of, texts_of, Delivers}
use Rattle.item_fold.specs.declared.delivery.FileNote.{FileNote}

-- a part of a text that is there, or of no bytes past the last, is a part where there are more texts
prefix_more : (texts more : List (List ℕ)) (number : ℕ) (part : List ℕ) → IsPrefix part (text_at texts number) → IsPrefix part (text_at (texts ++ more) number)
prefix_more [] more number [] is = (text_at more number, refl)
prefix_more [] more number (byte ∷ part) is = absurd (cc (is.1))
prefix_more (text ∷ texts) more zero part is = is
prefix_more (text ∷ texts) more (suc number) part is = prefix_more texts more number part is

adds_more : (texts more : List (List ℕ)) (number : ℕ) (before now : Option Parts) → number ≤ length texts → AddsParts texts number before now → AddsParts (texts ++ more) number before now
adds_more texts more number before now within adds = (
  adds.0,
  prefix_more texts more number adds.0 adds.1,
  adds.2 ∙ ap (λ (l : List (List ℕ)). option_map (λ (parts : Parts). (parts.0 ++ l, adds.0)) before) (sym (take-append-le number texts more within)),
)

length_texts : (files : List SessionFile) → length (texts_of files) ≡ length files
length_texts [] = refl
length_texts (file ∷ files) = ap (λ n. suc n) (length_texts files)

texts_more : (files more : List SessionFile) → texts_of (files ++ more) ≡ texts_of files ++ texts_of more
texts_more [] more = refl
texts_more (file ∷ files) more = ap (λ l. file.text ∷ l) (texts_more files more)

-- what has been delivered of these files has been delivered of these and more, where something went wrong
pub delivers_more : (files more : List SessionFile) (old answer : Result (Unit {0}) Undelivered) (notes notes' : List FileNote) (before now : Option Parts)
    → (answer ≡ Ok tt → ⊥) → (answer ≢ Err Memory → (old ≢ Err Memory) × (notes' ≡ notes)) → Delivers files old notes before now → Delivers (files ++ more) answer notes' before now
delivers_more files more old answer notes notes' before now wrong same d = record {
  number = d.number;
  within = omega (arith, d.within, length-append files more);
  parts = λ fresh. subst (λ texts. AddsParts texts d.number before now) (sym (texts_more files more))
      (adds_more (texts_of files) (texts_of more) d.number before now (omega (arith, d.within, length_texts files)) (d.parts fresh));
  all = λ ok. absurd (wrong ok);
  notes_are = λ room. (same room).1 ∙ d.notes_are (same room).0 ∙ ap (map note_of) (sym (take-append-le d.number files more d.within));
}

-- no more files
pub delivers_same : (files other : List SessionFile) (answer : Result (Unit {0}) Undelivered) (notes : List FileNote) (before now : Option Parts) → other ≡ files
    → Delivers files answer notes before now → Delivers other answer notes before now
delivers_same files other answer notes before now same d = subst (λ fs. Delivers fs answer notes before now) (sym same) d

-- past the last text there are no bytes
past_last : (texts : List (List ℕ)) (part : List ℕ) → IsPrefix part (text_at texts (length texts)) → part ≡ []
past_last [] [] is = refl
past_last [] (byte ∷ part) is = absurd (cc (is.1))
past_last (text ∷ texts) part is = past_last texts part is

last_text : (texts : List (List ℕ)) (text : List ℕ) → text_at (texts ++ text ∷ []) (length texts) ≡ text
last_text [] text = refl
last_text (first ∷ texts) text = last_text texts text

-- where all files have been delivered, each is a closed part, and the unfinished part is empty
all_closed : (files : List SessionFile) (notes : List FileNote) (before now : Option Parts) → Delivers files (Ok tt) notes before now → IfSome before (λ parts. parts.1 ≡ [])
    → now ≡ option_map (λ (parts : Parts). (parts.0 ++ texts_of files, [])) before
all_closed files notes before now d fresh =
    let adds = d.parts fresh in
    let all : d.number ≡ length (texts_of files) = d.all refl ∙ sym (length_texts files) in
    let none : adds.0 ≡ [] = past_last (texts_of files) adds.0 (subst (λ n. IsPrefix adds.0 (text_at (texts_of files) n)) all adds.1) in
    adds.2 ∙ ap₂ (λ (l : List (List ℕ)) (part : List ℕ). option_map (λ (parts : Parts). (parts.0 ++ l, part)) before)
    (take_all d.number (texts_of files) (omega (arith, all))) none

closed_next : (texts : List (List ℕ)) (text : List ℕ) (before : Option Parts)
    → closed (grown (option_map (λ (parts : Parts). (parts.0 ++ texts, [])) before) text) ≡ option_map (λ (parts : Parts). (parts.0 ++ (texts ++ text ∷ []), [])) before
closed_next texts text None = refl
closed_next texts text (Some parts) = ap (λ (l : List (List ℕ)). Some (l, [])) (append_assoc parts.0 texts (text ∷ []))

grown_next : (texts : List (List ℕ)) (part : List ℕ) (before : Option Parts)
    → grown (option_map (λ (parts : Parts). (parts.0 ++ texts, [])) before) part ≡ option_map (λ (parts : Parts). (parts.0 ++ texts, part)) before
grown_next texts part None = refl
grown_next texts part (Some parts) = refl

whole_notes : (files : List SessionFile) (notes : List FileNote) (number : ℕ) → number ≡ length files → notes ≡ map note_of (take number files) → notes ≡ map note_of files
whole_notes files notes number all are = are ∙ ap (map note_of) (take_all number files (omega (arith, all)))

-- one more file was delivered, and noted
pub delivered_next : (files : List SessionFile) (file : SessionFile) (answer : Result (Unit {0}) Undelivered) (notes notes' : List FileNote) (before old new : Option Parts)
    → new ≡ closed (grown old file.text) → (answer ≢ Err Memory → notes' ≡ notes ++ note_of file ∷ []) → Delivers files (Ok tt) notes before old → Delivers (files ++ file ∷ []) answer notes' before new
delivered_next files file answer notes notes' before old new whole noted d =
    let files' : List SessionFile = files ++ file ∷ [] in
    let texts : List (List ℕ) = texts_of files in
    record {
      number = length files';
      within = omega arith;
      parts = λ fresh. (
        [],
        (text_at (texts_of files') (length files'), refl),
        whole ∙ ap (λ p. closed (grown p file.text)) (all_closed files notes before old d fresh) ∙ closed_next texts file.text before
            ∙ ap (λ (l : List (List ℕ)). option_map (λ (parts : Parts). (parts.0 ++ l, [])) before)
            (sym (take_all (length files') (texts_of files') (omega (arith, length_texts files')) ∙ texts_more files (file ∷ []))),
      );
      all = λ ok. refl;
      notes_are = λ room. noted room ∙ ap (λ l. l ++ note_of file ∷ []) (whole_notes files notes d.number (d.all refl) (d.notes_are (λ e. absurd (cc e))))
          ∙ sym (map-append note_of files (file ∷ [])) ∙ ap (map note_of) (sym (take_all (length files') files' (omega arith)));
    }

-- one more file was not delivered
pub cut_next : (files : List SessionFile) (file : SessionFile) (fault : Undelivered) (notes : List FileNote) (before old new : Option Parts)
    → GrowsByPrefix old new file.text → Delivers files (Ok tt) notes before old → Delivers (files ++ file ∷ []) (Err fault) notes before new
cut_next files file fault notes before old new grows d =
    let texts : List (List ℕ) = texts_of files in
    let whole : texts_of (files ++ file ∷ []) ≡ texts ++ file.text ∷ [] = texts_more files (file ∷ []) in
    let last : text_at (texts_of (files ++ file ∷ [])) (length files) ≡ file.text =
    ap₂ (λ (l : List (List ℕ)) (n : ℕ). text_at l n) whole (sym (length_texts files)) ∙ last_text texts file.text in
    record {
      number = length files;
      within = omega (arith, length-append files (file ∷ []));
      parts = λ fresh. (
        grows.0,
        subst (IsPrefix grows.0) (sym last) grows.1,
        grows.2 ∙ ap (λ p. grown p grows.0) (all_closed files notes before old d fresh) ∙ grown_next texts grows.0 before
            ∙ ap (λ (l : List (List ℕ)). option_map (λ (parts : Parts). (parts.0 ++ l, grows.0)) before)
            (sym (ap (take (length files)) whole ∙ take-append-le (length files) texts (file.text ∷ []) (omega (arith, length_texts files)) ∙ take_all (length files) texts (omega (arith, length_texts files)))),
      );
      all = λ ok. absurd (cc ok);
      notes_are = λ room. whole_notes files notes d.number (d.all refl) (d.notes_are (λ e. absurd (cc e))) ∙ ap (map note_of) (sym (take-append-le (length files) files (file ∷ []) (omega arith) ∙ take_all (length files) files (omega arith)));
    }
