-- Words and numbers that stand in the texts of several records: how each is read, and the word that spells it.
use Rattle.std.specs.Prelude.{ℕ, ◌-◌, ◌^◌, List, Result, Ok, Err, if◌then◌else◌, bytes_eq, codes, decimal, Option, Some, None, IfSome}
use Rattle.prof_base.specs.declared.ids.TheConstants.Micros.{MAX}
use Rattle.prof_lines.specs.declared.fault.Cause.{Cause}
use Rattle.prof_lines.specs.declared.fault.Cause.TheVariants.{Word}
use Rattle.prof_lines.specs.Answers.{Front, ◌>>=◌}
use Rattle.prof_lines.specs.Words.{InRange, number_of, number_at}
use Rattle.code_event.specs.declared.event.Mode.{Mode}
use Rattle.code_event.specs.declared.event.Mode.TheVariants.{Leaf, Caller}
use Rattle.record_text.specs.declared.rule.Rule.{Rule}

-- what is read of a line, or its first fault
abbrev pub Read : Type 0 → Type 0
Read A = Result A (Cause Rule)

abbrev pub mode_word : Mode → List ℕ
mode_word Leaf = codes "leaf"
mode_word Caller = codes "caller"

-- `leaf` or `caller`
abbrev pub mode_of : List ℕ → Read Mode
mode_of word =
    if bytes_eq word (codes "leaf") then Ok Leaf
    else if bytes_eq word (codes "caller") then Ok Caller
    else Err Word

-- the greatest number of samples that a session lists
abbrev pub max_word : Option ℕ → List ℕ
max_word None = codes "all"
max_word (Some n) = decimal n

-- `all`, or a number
abbrev pub bound_of : ℕ → List ℕ → Read (Option ℕ)
bound_of least word = if bytes_eq word (codes "all") then Ok None else (number_of least (2 ^ 32 - 1) word >>= λ n. Ok (Some n))

-- a bound in its range, or none
abbrev pub IsBound : ℕ → Option ℕ → Type 0
IsBound least bound = IfSome bound (InRange least (2 ^ 32 - 1))

abbrev pub IsMax : Option ℕ → Type 0
IsMax max = IsBound 0 max

-- the number of the session that comes next
abbrev pub session_at : List ℕ → Read (Front ℕ)
session_at bytes = number_at 1 (2 ^ 32 - 1) bytes

-- the time that comes next
abbrev pub time_at : List ℕ → Read (Front ℕ)
time_at bytes = number_at 0 MAX bytes

abbrev pub IsTime : ℕ → Type 0
IsTime n = InRange 0 MAX n
