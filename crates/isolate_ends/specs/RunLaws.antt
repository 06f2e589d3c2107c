-- Runs of acts follow one another.
use Rattle.isolate_acts.specs.Acts.{Act}
use Rattle.isolate_acts.specs.Phases.{Phase, MayAct}
use Rattle.isolate_ends.specs.Runs.{Whole, Does, Runs}

-- an act that may come is a run
abbrev pub ActsAreRuns : Type 0
ActsAreRuns = (before after : Whole) (act : Act) (phase next : Phase) → MayAct before.moment before.progress phase act next → Does before after act → Runs before after phase next

-- two runs of which one leads to where the other begins are one
abbrev pub RunsFollow : Type 0
RunsFollow = (before between after : Whole) (phase middle last : Phase) → Runs before between phase middle → Runs between after middle last → Runs before after phase last
