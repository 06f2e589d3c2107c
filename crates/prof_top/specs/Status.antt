-- The exit statuses.
use Rattle.std.specs.Prelude.{ℕ, ◌⊎◌, ◌≡◌}
use Rattle.prof_top.specs.Asked.{Kind, guest_program, item_list}
use Rattle.prof_top.specs.Outcome.{IsAfterWork, IsBeforeWork}

-- the statuses that a call may answer
abbrev pub IsStatus : ℕ → Type 0
IsStatus status = (status ≡ 6) ⊎ (IsAfterWork status ⊎ IsBeforeWork status)

-- the status where a text of this kind cannot be read
abbrev pub refusal_of : Kind → ℕ
refusal_of guest_program = 2
refusal_of item_list = 10

-- the statuses of a call that read no text, or not all of them
abbrev pub StopsReading : ℕ → Type 0
StopsReading status = (status ≡ 6) ⊎ IsBeforeWork status
