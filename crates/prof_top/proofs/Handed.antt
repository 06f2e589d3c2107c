-- What comes out of a command, by what the stream and `out` answered.
use Rattle.std.proofs.Common.{◌≡◌, ◌≢◌, ◌⊎◌, inl, inr, ℕ, List, [], ◌∷◌, ◌++◌, refl, ap, sym, subst, ◌∙◌, length, map, take, arith}
use Rattle.std.proofs.lemmas.List.{append-nil}
use Rattle.std.specs.Prelude.{Option, Some, None, option_map, Result, Ok, Err, OnOk, IsErrOf, flat_map}
use Rattle.code_event.specs.ItemFile.{SessionFile}
use Rattle.prof_base.specs.Causes.{Rose}
use Rattle.prof_outer.specs.Appends.{AppendsWhole, AppendsPart}
use Rattle.prof_outer.specs.declared.sink.SinkFault.{SinkFault}
use Rattle.prof_outer.specs.declared.sink.SinkFault.TheVariants as sink
use Rattle.out_stream.specs.declared.stream.Undelivered.{Undelivered}
use Rattle.out_stream.specs.declared.stream.Undelivered.TheVariants as cut
use Rattle.item_fold.specs.Delivered.{note_of}
use Rattle.item_fold.specs.declared.delivery.FileNote.{FileNote}
use Rattle.prof_top.specs.Ending.{work_ending, where_done, status_of}
use Rattle.prof_top.specs.Written.{IsWritten}
use Rattle.prof_top.specs.declared.ending.Ending.{Ending}
use Rattle.prof_top.specs.declared.ending.Ending.TheVariants.{Done, CannotWrite}
use Rattle.prof_top.specs.HandedOut.{Outlets, outlets, IsHandedOut, IsGuestEnd, IsEndedSo, HandsOut}
use Rattle.prof_top.specs.PrintedText.{file_line, note_line}

six_where_unwritten : (delivered : Result (Unit {0}) Undelivered) (due : Ending) → status_of (work_ending delivered due (Err sink.Memory)) ≡ 6
six_where_unwritten (Ok u) due = refl
six_where_unwritten (Err cut.Aborted) due = refl
six_where_unwritten (Err cut.Failed) due = refl
six_where_unwritten (Err cut.Memory) due = refl

-- where the work was due to be done, it is not once `out` failed
pub not_zero_unwritten : (due : Ending) → status_of (where_done due CannotWrite) ≡ 0 → ⊥
not_zero_unwritten Done done = absurd (omega (arith, done))
not_zero_unwritten due done = absurd (omega (arith, done))

not_done_unwritten : (delivered : Result (Unit {0}) Undelivered) (due : Ending) (fault : SinkFault) → status_of (work_ending delivered due (Err fault)) ≡ 0 → ⊥
not_done_unwritten (Ok u) due sink.Failed done = not_zero_unwritten due done
not_done_unwritten (Ok u) due sink.Memory done = absurd (omega (arith, done))
not_done_unwritten (Err cut.Aborted) due sink.Failed done = absurd (omega (arith, done))
not_done_unwritten (Err cut.Aborted) due sink.Memory done = absurd (omega (arith, done))
not_done_unwritten (Err cut.Failed) due sink.Failed done = absurd (omega (arith, done))
not_done_unwritten (Err cut.Failed) due sink.Memory done = absurd (omega (arith, done))
not_done_unwritten (Err cut.Memory) due fault done = absurd (omega (arith, done))

-- no guest ends with this status
abbrev IsNoGuestEnd : ℕ → Type 0
IsNoGuestEnd status = IsGuestEnd status → ⊥

no_guest_end_5 : IsNoGuestEnd 5
no_guest_end_5 (inl is) = absurd (omega (arith, is))
no_guest_end_5 (inr (inl is)) = absurd (omega (arith, is))
no_guest_end_5 (inr (inr (inl is))) = absurd (omega (arith, is))
no_guest_end_5 (inr (inr (inr is))) = absurd (omega (arith, is))

no_guest_end_6 : IsNoGuestEnd 6
no_guest_end_6 (inl is) = absurd (omega (arith, is))
no_guest_end_6 (inr (inl is)) = absurd (omega (arith, is))
no_guest_end_6 (inr (inr (inl is))) = absurd (omega (arith, is))
no_guest_end_6 (inr (inr (inr is))) = absurd (omega (arith, is))

no_guest_end_14 : IsNoGuestEnd 14
no_guest_end_14 (inl is) = absurd (omega (arith, is))
no_guest_end_14 (inr (inl is)) = absurd (omega (arith, is))
no_guest_end_14 (inr (inr (inl is))) = absurd (omega (arith, is))
no_guest_end_14 (inr (inr (inr is))) = absurd (omega (arith, is))

no_guest_end_undelivered : (fault : Undelivered) (due : Ending) (written : Result (Unit {0}) SinkFault) → IsNoGuestEnd (status_of (work_ending (Err fault) due written))
no_guest_end_undelivered cut.Aborted due (Ok u) = no_guest_end_14
no_guest_end_undelivered cut.Aborted due (Err sink.Failed) = no_guest_end_14
no_guest_end_undelivered cut.Aborted due (Err sink.Memory) = no_guest_end_6
no_guest_end_undelivered cut.Failed due (Ok u) = no_guest_end_5
no_guest_end_undelivered cut.Failed due (Err sink.Failed) = no_guest_end_5
no_guest_end_undelivered cut.Failed due (Err sink.Memory) = no_guest_end_6
no_guest_end_undelivered cut.Memory due written = no_guest_end_6

whole_of : (answer : Result (Unit {0}) Undelivered) (due : Ending) (written : Result (Unit {0}) SinkFault) (files : List SessionFile) (number aborts aborts' faults faults' : ℕ)
    → (answer ≡ Ok tt → number ≡ length files) → (IsErrOf answer cut.Aborted → Rose aborts aborts') → (IsErrOf answer cut.Failed → Rose faults faults')
    → ¬ Rose aborts aborts' → ¬ Rose faults faults' → status_of (work_ending answer due written) ≢ 6 → number ≡ length files
whole_of (Ok u) due written files number aborts aborts' faults faults' all aborted failed no_abort no_fault room = all refl
whole_of (Err cut.Aborted) due written files number aborts aborts' faults faults' all aborted failed no_abort no_fault room = absurd (no_abort (aborted refl))
whole_of (Err cut.Failed) due written files number aborts aborts' faults faults' all aborted failed no_abort no_fault room = absurd (no_fault (failed refl))
whole_of (Err cut.Memory) due written files number aborts aborts' faults faults' all aborted failed no_abort no_fault room = absurd (room refl)

done_of : (answer : Result (Unit {0}) Undelivered) (due : Ending) (written : Result (Unit {0}) SinkFault) (files : List SessionFile) (number : ℕ)
    → (answer ≡ Ok tt → number ≡ length files) → IsGuestEnd (status_of (work_ending answer due written)) → number ≡ length files
done_of (Ok u) due written files number all done = all refl
done_of (Err fault) due written files number all done = absurd (no_guest_end_undelivered fault due written done)

order_of : (answer : Result (Unit {0}) Undelivered) (due : Ending) (written : Result (Unit {0}) SinkFault) (files : List SessionFile) (number faults faults' : ℕ)
    → (answer ≡ Ok tt → number ≡ length files) → (IsErrOf answer cut.Failed → Rose faults faults')
    → status_of (work_ending answer due written) ≡ 5 → Rose faults faults' ⊎ (number ≡ length files)
order_of (Ok u) due written files number faults faults' all failed five = inr (all refl)
order_of (Err cut.Failed) due written files number faults faults' all failed five = inl (failed refl)
order_of (Err cut.Aborted) due (Ok u) files number faults faults' all failed five = absurd (omega (arith, five))
order_of (Err cut.Aborted) due (Err sink.Failed) files number faults faults' all failed five = absurd (omega (arith, five))
order_of (Err cut.Aborted) due (Err sink.Memory) files number faults faults' all failed five = absurd (omega (arith, five))
order_of (Err cut.Memory) due written files number faults faults' all failed five = absurd (omega (arith, five))

-- where the files were delivered and `out` failed
ended_unwritten : (due : Ending) (before now : Outlets) → Rose before.out_faults now.out_faults → IsEndedSo due (status_of (where_done due CannotWrite)) before now
ended_unwritten Done before now failed = inr (inr (inl (refl, inr (refl, inl failed))))
ended_unwritten due before now failed = inr (inr (inr refl))

-- the status follows from the ending that was due
ended_so : (answer : Result (Unit {0}) Undelivered) (due : Ending) (written : Result (Unit {0}) SinkFault) (before now : Outlets)
    → (IsErrOf answer cut.Aborted → Rose before.aborts now.aborts) → (IsErrOf answer cut.Failed → Rose before.stream_faults now.stream_faults)
    → (IsErrOf written sink.Failed → Rose before.out_faults now.out_faults) → IsEndedSo due (status_of (work_ending answer due written)) before now
ended_so (Err cut.Memory) due written before now aborted failed unwritten = inl refl
ended_so (Err cut.Aborted) due (Err sink.Memory) before now aborted failed unwritten = inl refl
ended_so (Err cut.Failed) due (Err sink.Memory) before now aborted failed unwritten = inl refl
ended_so (Ok u) due (Err sink.Memory) before now aborted failed unwritten = inl refl
ended_so (Err cut.Aborted) due (Err sink.Failed) before now aborted failed unwritten = inr (inl (refl, aborted refl))
ended_so (Err cut.Aborted) due (Ok u) before now aborted failed unwritten = inr (inl (refl, aborted refl))
ended_so (Err cut.Failed) due (Err sink.Failed) before now aborted failed unwritten = inr (inr (inl (refl, inl (failed refl))))
ended_so (Err cut.Failed) due (Ok u) before now aborted failed unwritten = inr (inr (inl (refl, inl (failed refl))))
ended_so (Ok u) due (Err sink.Failed) before now aborted failed unwritten = ended_unwritten due before now (unwritten refl)
ended_so (Ok u) due (Ok v) before now aborted failed unwritten = inr (inr (inr refl))

grown_by_none : (old : Option (List ℕ)) → old ≡ option_map (λ written. written ++ []) old
grown_by_none None = refl
grown_by_none (Some written) = ap (λ (w : List ℕ). Some w) (sym (append-nil written))

pub whole_is_part : (old new : Option (List ℕ)) (text : List ℕ) → AppendsWhole old new text → AppendsPart old new text
whole_is_part old new text whole = (text, ([], sym (append-nil text)), whole)

pub none_is_part : (old new : Option (List ℕ)) (text : List ℕ) → new ≡ old → AppendsPart old new text
none_is_part old new text same = ([], (text, refl), same ∙ grown_by_none old)

part_of : (written : Result (Unit {0}) SinkFault) (old new : Option (List ℕ)) (text : List ℕ)
    → OnOk written (AppendsWhole old new text) → (IsErrOf written sink.Failed → AppendsPart old new text) → (IsErrOf written sink.Memory → new ≡ old) → AppendsPart old new text
part_of (Ok u) old new text ok part memory = whole_is_part old new text ok
part_of (Err sink.Failed) old new text ok part memory = part refl
part_of (Err sink.Memory) old new text ok part memory = none_is_part old new text (memory refl)

written_whole : (delivered : Result (Unit {0}) Undelivered) (due : Ending) (written : Result (Unit {0}) SinkFault) (old new : Option (List ℕ)) (text : List ℕ) (faults faults' : ℕ)
    → OnOk written (AppendsWhole old new text) → (IsErrOf written sink.Failed → Rose faults faults')
    → ¬ Rose faults faults' → status_of (work_ending delivered due written) ≢ 6 → AppendsWhole old new text
written_whole delivered due (Ok u) old new text faults faults' ok failed no_fault room = ok
written_whole delivered due (Err sink.Failed) old new text faults faults' ok failed no_fault room = absurd (no_fault (failed refl))
written_whole delivered due (Err sink.Memory) old new text faults faults' ok failed no_fault room = absurd (room (six_where_unwritten delivered due))

written_done : (delivered : Result (Unit {0}) Undelivered) (due : Ending) (written : Result (Unit {0}) SinkFault) (old new : Option (List ℕ)) (text : List ℕ)
    → OnOk written (AppendsWhole old new text) → status_of (work_ending delivered due written) ≡ 0 → AppendsWhole old new text
written_done delivered due (Ok u) old new text ok done = ok
written_done delivered due (Err fault) old new text ok done = absurd (not_done_unwritten delivered due fault done)

-- what `out` answered, and what that left, where the files were delivered with this answer
pub record Writes (answer : Result (Unit {0}) Undelivered) (written : Result (Unit {0}) SinkFault) (text : List ℕ) (old new : Option (List ℕ)) (faults faults' : ℕ) : Type 0 where
  pub ok : OnOk written (AppendsWhole old new text)
  pub room : IsErrOf answer cut.Memory → IsErrOf written sink.Memory
  pub part : IsErrOf written sink.Failed → AppendsPart old new text
  pub memory : IsErrOf written sink.Memory → new ≡ old
  pub failed : IsErrOf written sink.Failed → Rose faults faults'

-- the lines of notes are those of their files
lines_of_notes : (files : List SessionFile) → flat_map note_line (map note_of files) ≡ flat_map file_line files
lines_of_notes [] = refl
lines_of_notes (file ∷ files) = ap (λ rest. file_line file ++ rest) (lines_of_notes files)

same_lines : (files : List SessionFile) (number : ℕ) (lines : List ℕ) (notes : List FileNote) → notes ≡ map note_of (take number files)
    → lines ++ flat_map note_line notes ≡ lines ++ flat_map file_line (take number files)
same_lines files number lines notes are = ap (λ l. lines ++ l) (ap (flat_map note_line) are ∙ lines_of_notes (take number files))

-- this text was written, so far as it had to be
pub record HasWritten (answer : Result (Unit {0}) Undelivered) (due : Ending) (written : Result (Unit {0}) SinkFault) (text : List ℕ) (old new : Option (List ℕ)) (faults faults' : ℕ) : Type 0 where
  pub printed : IsWritten text (status_of (work_ending answer due written)) old new faults faults'
  pub done : status_of (work_ending answer due written) ≡ 0 → AppendsWhole old new text

has_written : (answer : Result (Unit {0}) Undelivered) (due : Ending) (written : Result (Unit {0}) SinkFault) (text : List ℕ) (old new : Option (List ℕ)) (faults faults' : ℕ)
    → Writes answer written text old new faults faults' → HasWritten answer due written text old new faults faults'
has_written answer due written text old new faults faults' writes = record {
  printed = record {
    part = part_of written old new text writes.ok writes.part writes.memory;
    whole = λ no_fault room. written_whole answer due written old new text faults faults' writes.ok writes.failed no_fault room;
  };
  done = λ done. written_done answer due written old new text writes.ok done;
}

-- out of memory nothing was written, and nothing is owed
unwritten : (due : Ending) (written : Result (Unit {0}) SinkFault) (text : List ℕ) (old new : Option (List ℕ)) (faults faults' : ℕ) → new ≡ old
    → HasWritten (Err cut.Memory) due written text old new faults faults'
unwritten due written text old new faults faults' same = record {
  printed = record { part = none_is_part old new text same; whole = λ no_fault room. absurd (room refl) };
  done = λ done. absurd (omega (arith, done));
}

lines_written : (files : List SessionFile) (number : ℕ) (lines : List ℕ) (notes : List FileNote) (answer : Result (Unit {0}) Undelivered) (due : Ending) (written : Result (Unit {0}) SinkFault)
    (old new : Option (List ℕ)) (faults faults' : ℕ) → (answer ≢ Err cut.Memory → notes ≡ map note_of (take number files))
    → Writes answer written (lines ++ flat_map note_line notes) old new faults faults'
    → HasWritten answer due written (lines ++ flat_map file_line (take number files)) old new faults faults'
lines_written files number lines notes (Err cut.Memory) due written old new faults faults' are writes =
    unwritten due written (lines ++ flat_map file_line (take number files)) old new faults faults' (writes.memory (writes.room refl))
lines_written files number lines notes (Err cut.Aborted) due written old new faults faults' are writes =
    subst (λ t. HasWritten (Err cut.Aborted) due written t old new faults faults') (same_lines files number lines notes (are (λ e. absurd (cc e)))) (has_written (Err cut.Aborted) due written (lines ++ flat_map note_line notes) old new faults faults' writes)
lines_written files number lines notes (Err cut.Failed) due written old new faults faults' are writes =
    subst (λ t. HasWritten (Err cut.Failed) due written t old new faults faults') (same_lines files number lines notes (are (λ e. absurd (cc e)))) (has_written (Err cut.Failed) due written (lines ++ flat_map note_line notes) old new faults faults' writes)
lines_written files number lines notes (Ok u) due written old new faults faults' are writes =
    subst (λ t. HasWritten (Ok u) due written t old new faults faults') (same_lines files number lines notes (are (λ e. absurd (cc e)))) (has_written (Ok u) due written (lines ++ flat_map note_line notes) old new faults faults' writes)

handed_so : (lines : List ℕ) (notes : List FileNote) (answer : Result (Unit {0}) Undelivered) (due : Ending) (written : Result (Unit {0}) SinkFault) (old new : Option (List ℕ)) (out_faults out_faults' : ℕ)
    → Writes answer written (lines ++ flat_map note_line notes) old new out_faults out_faults'
    → (write_faults write_faults' : ℕ) → HandsOut answer due lines notes (status_of (work_ending answer due written)) old out_faults write_faults new out_faults' write_faults'
handed_so lines notes answer due written old new out_faults out_faults' writes write_faults write_faults' files parts parts' aborts aborts' faults faults' is =
    let d = is.delivers in
    let has = lines_written files d.number lines notes answer due written old new out_faults out_faults' d.notes_are writes in (
      record {
        delivered = d.number;
        parts = d.parts;
        whole = λ no_abort no_fault room. whole_of answer due written files d.number aborts aborts' faults faults' d.all is.aborted is.failed no_abort no_fault room;
        done = λ done. done_of answer due written files d.number d.all done;
        order = λ five. order_of answer due written files d.number faults faults' d.all is.failed five;
        printed = has.printed;
        printed_done = has.done;
      },
      ended_so answer due written (outlets parts aborts faults old out_faults write_faults) (outlets parts' aborts' faults' new out_faults' write_faults') is.aborted is.failed writes.failed,
    )

-- what has come out of a command that ends in this way
pub handed_out : (lines : List ℕ) (notes : List FileNote) (ending : Ending) (answer : Result (Unit {0}) Undelivered) (due : Ending) (written : Result (Unit {0}) SinkFault) (old new : Option (List ℕ)) (out_faults out_faults' : ℕ)
    → ending ≡ work_ending answer due written → Writes answer written (lines ++ flat_map note_line notes) old new out_faults out_faults'
    → (write_faults write_faults' : ℕ) → HandsOut answer due lines notes (status_of ending) old out_faults write_faults new out_faults' write_faults'
handed_out lines notes ending answer due written old new out_faults out_faults' ends writes write_faults write_faults' =
    subst (λ e. HandsOut answer due lines notes (status_of e) old out_faults write_faults new out_faults' write_faults') (sym ends)
    (handed_so lines notes answer due written old new out_faults out_faults' writes write_faults write_faults')

-- where memory runs out for the line of error, what has come out stays the same
pub handed_at_last : (files : List SessionFile) (text : List SessionFile → List ℕ) (status last : ℕ) (before now : Outlets) → (last ≡ status) ⊎ (last ≡ 6)
    → IsHandedOut files text status before now → IsHandedOut files text last before now
handed_at_last files text status last before now (inl same) handed = subst (λ s. IsHandedOut files text s before now) (sym same) handed
handed_at_last files text status last before now (inr memory) handed = record {
  delivered = handed.delivered;
  parts = handed.parts;
  whole = λ no_abort no_fault room. absurd (room memory);
  done = λ done. absurd (no_guest_end_6 (subst IsGuestEnd memory done));
  order = λ five. absurd (omega (arith, memory, five));
  printed = record { part = handed.printed.part; whole = λ no_fault room. absurd (room memory) };
  printed_done = λ done. absurd (omega (arith, memory, done));
}
