-- What comes out of a command: its files through the stream, and its text through `out`; and how the call ended, by what failed.
use Rattle.std.specs.Prelude.{◌≡◌, ◌≢◌, ◌⊎◌, ℕ, List, [], ◌++◌, length, map, flat_map, take, Option, IfSome, Result, IsErrOf}
use Rattle.prof_base.specs.Causes.{Rose}
use Rattle.prof_outer.specs.Appends.{AppendsWhole}
use Rattle.out_stream.specs.AddedParts.{AddsParts}
use Rattle.out_stream.specs.Parts.{Parts}
use Rattle.out_stream.specs.declared.stream.Undelivered.{Undelivered}
use Rattle.out_stream.specs.declared.stream.Undelivered.TheVariants.{Aborted, Failed}
use Rattle.code_event.specs.ItemFile.{SessionFile}
use Rattle.item_fold.specs.Delivered.{Delivers}
use Rattle.item_fold.specs.declared.delivery.FileNote.{FileNote}
use Rattle.prof_top.specs.Ending.{status_of}
use Rattle.prof_top.specs.PrintedText.{file_line}
use Rattle.prof_top.specs.Written.{IsWritten}
use Rattle.prof_top.specs.declared.ending.Ending.{Ending}
use Rattle.prof_top.specs.declared.ending.Ending.TheVariants.{Done}

-- what can be observed of the stream and of `out` at one moment, and how often a write to the depot had failed
pub record Outlets : Type 0 where
  pub parts : Option Parts
  pub aborts : ℕ
  pub stream_faults : ℕ
  pub written : Option (List ℕ)
  pub out_faults : ℕ
  pub write_faults : ℕ

-- an `Outlets` from its parts
abbrev pub outlets : Option Parts → ℕ → ℕ → Option (List ℕ) → ℕ → ℕ → Outlets
outlets parts aborts stream_faults written out_faults write_faults =
    record {
      parts = parts;
      aborts = aborts;
      stream_faults = stream_faults;
      written = written;
      out_faults = out_faults;
      write_faults = write_faults;
    }

-- the statuses of a call that ends as its guest did, or as a fold that was done
abbrev pub IsGuestEnd : ℕ → Type 0
IsGuestEnd status = (status ≡ 0) ⊎ ((status ≡ 7) ⊎ ((status ≡ 8) ⊎ (status ≡ 13)))

-- the status of a call whose work was due to end in this way: out of memory; or the stream aborted; or the stream failed, or `out` or a write to the depot did where the work was due to be done; or nothing of that counts, and the call ended as it was due to
abbrev pub IsEndedSo : Ending → ℕ → Outlets → Outlets → Type 0
IsEndedSo due status before now =
    (status ≡ 6)
    ⊎ (((status ≡ 14) × Rose before.aborts now.aborts)
    ⊎ (((status ≡ 5) × (Rose before.stream_faults now.stream_faults ⊎ ((due ≡ Done) × (Rose before.out_faults now.out_faults ⊎ Rose before.write_faults now.write_faults))))
    ⊎ (status ≡ status_of due)))

-- The first of these files were delivered, and this text was printed of them. All were delivered where the stream neither aborted nor failed and there was memory, where the call ended as its guest did, and where only `out` or a write to the depot failed.
pub record IsHandedOut (files : List SessionFile) (text : List SessionFile → List ℕ) (status : ℕ) (before now : Outlets) : Type 0 where
  pub delivered : ℕ
  pub parts : IfSome before.parts (λ parts. parts.1 ≡ []) → AddsParts (map (λ file. file.text) files) delivered before.parts now.parts
  pub whole : ¬ Rose before.aborts now.aborts → ¬ Rose before.stream_faults now.stream_faults → status ≢ 6 → delivered ≡ length files
  pub done : IsGuestEnd status → delivered ≡ length files
  pub order : status ≡ 5 → Rose before.stream_faults now.stream_faults ⊎ (delivered ≡ length files)
  pub printed : IsWritten (text (take delivered files)) status before.written now.written before.out_faults now.out_faults
  pub printed_done : status ≡ 0 → AppendsWhole before.written now.written (text (take delivered files))

-- a delivery of files and its answer, by the stream before and now: an abort and a fault were counted
pub record IsDelivered (files : List SessionFile) (answer : Result (Unit {0}) Undelivered) (notes : List FileNote) (parts parts' : Option Parts) (aborts aborts' faults faults' : ℕ) : Type 0 where
  pub delivers : Delivers files answer notes parts parts'
  pub aborted : IsErrOf answer Aborted → Rose aborts aborts'
  pub failed : IsErrOf answer Failed → Rose faults faults'

-- whatever files were delivered with this answer and these notes, they are handed out with these lines, and a line for each that was delivered whole; and the status follows from the ending that was due
abbrev pub HandsOut : Result (Unit {0}) Undelivered → Ending → List ℕ → List FileNote → ℕ → Option (List ℕ) → ℕ → ℕ → Option (List ℕ) → ℕ → ℕ → Type 0
HandsOut answer due lines notes status written out_faults write_faults written' out_faults' write_faults' =
    (files : List SessionFile) (parts parts' : Option Parts) (aborts aborts' faults faults' : ℕ) → IsDelivered files answer notes parts parts' aborts aborts' faults faults'
    → IsHandedOut files (λ done. lines ++ flat_map file_line done) status (outlets parts aborts faults written out_faults write_faults) (outlets parts' aborts' faults' written' out_faults' write_faults')
    × IsEndedSo due status (outlets parts aborts faults written out_faults write_faults) (outlets parts' aborts' faults' written' out_faults' write_faults')
