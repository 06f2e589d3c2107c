-- What was written to a sink in a call that ended with a status.
use Rattle.std.specs.Prelude.{◌≢◌, ℕ, List, Option}
use Rattle.prof_base.specs.Causes.{Rose}
use Rattle.prof_outer.specs.Appends.{AppendsWhole, AppendsPart}

-- this text, by the bytes and the faults of the sink before and now: only a prefix of it where the sink failed or memory ran out
pub record IsWritten (text : List ℕ) (status : ℕ) (before now : Option (List ℕ)) (faults faults' : ℕ) : Type 0 where
  pub part : AppendsPart before now text
  pub whole : ¬ Rose faults faults' → status ≢ 6 → AppendsWhole before now text
