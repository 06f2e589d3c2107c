-- What an isolate asks its ports and tells them, as it goes on.
use Rattle.std.specs.Prelude.{◌≡◌, ℕ, ◌+◌, List, [], ◌∷◌, count_by, Bool, true, false, Some, if◌then◌else◌}
use Rattle.isolate_acts.specs.Acts.{Act, calls_on, progress_on}
use Rattle.isolate_acts.specs.Calls.{Call, commanded, answered, read, told}
use Rattle.isolate_acts.specs.Phases.{Phase, LeadTo}
use Rattle.isolate_acts.specs.Progress.{Moment, Progress, entry_count, goes_on, source_now}

-- it is a reading of the clock
abbrev pub is_reading : Call → Bool
is_reading (read step now) = true
is_reading other = false

-- it gave a command
abbrev pub is_command : Call → Bool
is_command (commanded port step (Some command)) = true
is_command other = false

-- it is an answer
abbrev pub is_answer : Call → Bool
is_answer (answered port answer place is_taken) = true
is_answer other = false

-- the source interval that the ports were told last, where it was this before
abbrev pub interval_after : ℕ → List Call → ℕ
interval_after interval [] = interval
interval_after interval (told next ∷ calls) = interval_after next calls
interval_after interval (call ∷ calls) = interval_after interval calls

-- the interval at which samples are to be taken: the source interval of the sessions that run, 0 after the end
abbrev pub sampling_interval : Progress → ℕ
sampling_interval p = if goes_on p then source_now p else 0

-- for each entry the clock is read once
abbrev pub EachEntryHasAReading : Type 0
EachEntryHasAReading = (moment : Moment) (p : Progress) (acts : List Act) → entry_count (progress_on moment p acts) ≡ entry_count p + count_by is_reading (calls_on moment p acts)

-- each command that a port gives is answered once
abbrev pub EachCommandIsAnswered : Type 0
EachCommandIsAnswered = (moment : Moment) (p : Progress) (acts : List Act) → count_by is_command (calls_on moment p acts) ≡ count_by is_answer (calls_on moment p acts)

-- after all acts that may come, the ports were told the interval at which samples are to be taken, if they were before
abbrev pub PortsKnowTheInterval : Type 0
PortsKnowTheInterval =
    (moment : Moment) (p : Progress) (phase last : Phase) (acts : List Act) → LeadTo moment p phase acts last
    → interval_after (sampling_interval p) (calls_on moment p acts) ≡ sampling_interval (progress_on moment p acts)
