-- The samples of a run of acts, offered to a ring that takes each or refuses each.
use Rattle.std.specs.Prelude.{◌≡◌, List, Bool, not}
use Rattle.std.specs.List.{AllByRecursion}
use Rattle.isolate_acts.specs.Acts.{Act, samples}

-- a sample is in unless the ring refuses it
abbrev pub IsOffered : Bool → Act → Type 0
IsOffered refusing (samples now is_in) = is_in ≡ not refusing
IsOffered refusing other = Unit {0}

-- each sample of these acts was offered to a ring that refuses each, or takes each
abbrev pub AreOffered : Bool → List Act → Type 0
AreOffered refusing acts = AllByRecursion (IsOffered refusing) acts
