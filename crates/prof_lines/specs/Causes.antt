-- What is at fault in a line, and with which cause, in terms that no reader shares.
use Rattle.std.specs.Prelude.{◌≡◌, ◌≢◌, ℕ, zero, suc, List, [], Err, Bool, true, false, ◌⊎◌, decimal}
use Rattle.std.specs.List.{list_all}
use Rattle.prof_lines.specs.declared.fault.Cause.{Cause}
use Rattle.prof_lines.specs.declared.fault.Cause.TheVariants.{Word, Number, Own}
use Rattle.prof_lines.specs.Answers.{Reader}
use Rattle.prof_lines.specs.Words.{InRange, is_no_space, is_plain}
use Rattle.prof_lines.specs.Spelled.{IsWord, BeginsWith, HasWords, optional_word}

-- the faults of bytes of a line, each with its cause
abbrev pub Faults : Type 0 → Type 1
Faults C = List ℕ → Cause C → Type 0

-- a reader refuses what has a fault, with the cause of the fault, and nothing else
pub record Refuses {B C : Type 0} (read : Reader B C) (Fault : Faults C) : Type 0 where
  pub says : (bytes : List ℕ) (cause : Cause C) → read bytes ≡ Err cause → Fault bytes cause
  pub again : (bytes : List ℕ) (cause : Cause C) → Fault bytes cause → read bytes ≡ Err cause

-- the fault that a reader itself finds
abbrev pub FoundBy : {B C : Type 0} → Reader B C → Faults C
FoundBy read bytes cause = read bytes ≡ Err cause

-- none of these values is spelled by the word that comes next
abbrev pub NoneComes : {A : Type 0} → (A → Type 0) → (A → List ℕ) → List ℕ → Type 0
NoneComes {A = A} Fits word bytes = (value : A) (rest : List ℕ) → Fits value → ¬ BeginsWith (word value) rest bytes

-- no plain word comes next
abbrev pub NoWordComes : List ℕ → Type 0
NoWordComes bytes = NoneComes IsWord (λ word. word) bytes

-- bytes come next, up to a space or the end of the line, that are not all plain
abbrev pub HasOtherNext : List ℕ → Type 0
HasOtherNext bytes =
    (other : List ℕ) × (rest : List ℕ) × BeginsWith other rest bytes × (list_all is_no_space other ≡ true) × (list_all is_plain other ≡ false)

-- the fault of a place that names no other cause: none of its values is spelled by the word that comes next
abbrev pub WordFault : {A C : Type 0} → (A → Type 0) → (A → List ℕ) → Faults C
WordFault Fits word bytes cause = (cause ≡ Word) × NoneComes Fits word bytes

-- the fault of a fixed word: it does not come next
abbrev pub FixedFault : {C : Type 0} → List ℕ → Faults C
FixedFault wanted bytes cause = (cause ≡ Word) × ((rest : List ℕ) → ¬ BeginsWith wanted rest bytes)

-- the fault of a plain word that is read further: it names no value
abbrev pub NamingFault : {A C : Type 0} → Cause C → (A → Type 0) → (A → List ℕ) → Faults C
NamingFault {A = A} only Fits word text cause = (cause ≡ only) × ((value : A) → Fits value → word value ≢ text)

-- the word is the decimal text of no number in the range
abbrev pub IsNoNumber : ℕ → ℕ → List ℕ → Type 0
IsNoNumber least most word = (n : ℕ) → InRange least most n → decimal n ≢ word

-- the fault of a place for a number: no plain word comes next, or a plain word comes next that is no number in the range
abbrev pub NumberFault : {C : Type 0} → ℕ → ℕ → Faults C
NumberFault least most bytes Word = NoWordComes bytes
NumberFault least most bytes Number = (word : List ℕ) × (rest : List ℕ) × IsWord word × BeginsWith word rest bytes × IsNoNumber least most word
NumberFault least most bytes (Own cause) = ⊥

-- the fault of a place for a plain word that is read further: no plain word comes next, or one comes next that is at fault
abbrev pub OfWordFault : {C : Type 0} → Faults C → Faults C
OfWordFault Fault bytes cause =
    ((cause ≡ Word) × NoWordComes bytes) ⊎ ((word : List ℕ) × (rest : List ℕ) × IsWord word × BeginsWith word rest bytes × Fault word cause)

-- the fault of the end of a line: something other than spaces is left
abbrev pub EndFault : {C : Type 0} → Faults C
EndFault bytes cause = (cause ≡ Word) × ¬ HasWords [] bytes

-- the fault of a word that may be missing: what is left is neither this word alone nor nothing
abbrev pub OptionalFault : {C : Type 0} → List ℕ → Faults C
OptionalFault wanted bytes cause = (cause ≡ Word) × ((there : Bool) → ¬ HasWords (optional_word wanted there) bytes)

-- the fault of places in a row: the first is at fault; or a value of it is spelled, and what comes after that is at fault
abbrev pub AtOrAfter : {A C : Type 0} → (A → Type 0) → (A → List ℕ) → Faults C → (A → Faults C) → Faults C
AtOrAfter {A = A} Fits word Fault Later bytes cause =
    Fault bytes cause ⊎ ((value : A) × (rest : List ℕ) × Fits value × BeginsWith (word value) rest bytes × Later value rest cause)

-- the same where the first is a fixed word
abbrev pub FixedOrAfter : {C : Type 0} → List ℕ → Faults C → Faults C
FixedOrAfter wanted Later bytes cause = FixedFault wanted bytes cause ⊎ ((rest : List ℕ) × BeginsWith wanted rest bytes × Later rest cause)

-- the fault of numbers up to the end of the line: with room for none, the line does not end;
-- else it does not end either, and its first number is at fault, or those after it
abbrev pub NumbersFault : {C : Type 0} → ℕ → ℕ → ℕ → Faults C
NumbersFault least most zero bytes cause = EndFault bytes cause
NumbersFault least most (suc room) bytes cause =
    (¬ HasWords [] bytes) × AtOrAfter (InRange least most) decimal (NumberFault least most) (λ n. NumbersFault least most room) bytes cause

-- the fault of the words after a word that chooses among forms: those of the form that it names, or of the others
abbrev pub ChosenFault : {C : Type 0} → List ℕ → Faults C → Faults C → List ℕ → Faults C
ChosenFault name Named Other word bytes cause = ((word ≡ name) × Named bytes cause) ⊎ ((word ≢ name) × Other bytes cause)
