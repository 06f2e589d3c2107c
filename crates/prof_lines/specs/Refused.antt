-- Which line of a text is refused, and with which cause, in terms that no reader shares.
use Rattle.std.specs.Prelude.{◌≡◌, ℕ, List, [], ◌∷◌, ◌++◌, Err, Some, ◌⊎◌}
use Rattle.prof_lines.specs.declared.fault.Cause.{Cause}
use Rattle.prof_lines.specs.Lines.{counted, number_after}
use Rattle.prof_lines.specs.Spelled.{HasWords}
use Rattle.prof_lines.specs.Forms.{Wording}
use Rattle.prof_lines.specs.Values.{LineReader, Fitting, Rules, TextEnd, Spells}
use Rattle.prof_lines.specs.Causes.{Faults, FoundBy}

-- the faults of the words of the line that comes after these values
abbrev pub LineFaults : Type 0 → Type 0 → Type 1
LineFaults V C = List V → Faults C

-- those that a reader itself finds
abbrev pub FoundAfter : {V C : Type 0} → LineReader V C → LineFaults V C
FoundAfter read before = FoundBy (read before)

-- the fault of a line: its words are at fault; or they spell a value that breaks a rule after the values before
abbrev pub LineFaultAfter : {V C : Type 0} → Fitting V → Wording V → Rules V C → LineFaults V C → LineFaults V C
LineFaultAfter {V = V} Fits words fault Fault before line cause =
    Fault before line cause ⊎ ((value : V) × Fits before value × HasWords (words value) line × (fault before value ≡ Some cause))

-- the first line at fault is here: the lines before it spell values that break no rule, and it is at fault after them
pub record IsRefusedLine {V C : Type 0} (Fits : Fitting V) (words : Wording V) (fault : Rules V C) (Fault : LineFaults V C) (lines : List (ℕ × List ℕ)) (place : ℕ × Cause C) : Type 0 where
  pub before : List (ℕ × List ℕ)
  pub line : ℕ × List ℕ
  pub after : List (ℕ × List ℕ)
  pub values : List V
  pub are : lines ≡ before ++ line ∷ after
  pub number : line.0 ≡ place.0
  pub spelled : Spells Fits words fault [] values before
  pub at_fault : LineFaultAfter Fits words fault Fault values line.1 place.1

-- all lines spell values that break no rule, and the end of the text is at fault after them
pub record IsRefusedEnd {V W C : Type 0} (Fits : Fitting V) (words : Wording V) (fault : Rules V C) (end : TextEnd V W C) (text : List ℕ) (place : ℕ × Cause C) : Type 0 where
  pub values : List V
  pub spelled : Spells Fits words fault [] values (counted text)
  pub at_fault : end values ≡ Err place.1
  pub number : place.0 ≡ number_after text

-- the fault of a text is that of its first line at fault, or else of its end
abbrev pub IsRefusedText : {V W C : Type 0} → Fitting V → Wording V → Rules V C → LineFaults V C → TextEnd V W C → List ℕ → ℕ × Cause C → Type 0
IsRefusedText Fits words fault Fault end text place = IsRefusedLine Fits words fault Fault (counted text) place ⊎ IsRefusedEnd Fits words fault end text place
