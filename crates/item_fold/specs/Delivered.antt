-- Which of some files have been delivered.
use Rattle.std.specs.Prelude.{◌≡◌, ◌≢◌, ℕ, ◌≤◌, List, [], length, map, take, Option, IfSome, Result, Ok, Err}
use Rattle.code_event.specs.ItemFile.{SessionFile, session}
use Rattle.out_stream.specs.AddedParts.{AddsParts}
use Rattle.out_stream.specs.Parts.{Parts}
use Rattle.out_stream.specs.declared.stream.Undelivered.{Undelivered}
use Rattle.out_stream.specs.declared.stream.Undelivered.TheVariants.{Memory}
use Rattle.item_fold.specs.declared.delivery.FileNote.{FileNote}

-- the note of a file
abbrev pub note_of : SessionFile → FileNote
note_of file = record { session = session file.session; length = length file.text }

abbrev pub texts_of : List SessionFile → List (List ℕ)
texts_of files = map (λ file. file.text) files

-- The first of these files were delivered, each as one part, and there is a note of each; a prefix of the next is unfinished. All were delivered where nothing went wrong. Out of memory, the last note may be missing.
pub record Delivers (files : List SessionFile) (answer : Result (Unit {0}) Undelivered) (notes : List FileNote) (before now : Option Parts) : Type 0 where
  pub number : ℕ
  pub within : number ≤ length files
  pub parts : IfSome before (λ parts. parts.1 ≡ []) → AddsParts (texts_of files) number before now
  pub all : answer ≡ Ok tt → number ≡ length files
  pub notes_are : answer ≢ Err Memory → notes ≡ map note_of (take number files)
