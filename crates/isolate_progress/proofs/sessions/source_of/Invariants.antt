use Rattle.std.proofs.Common.{◌≡◌, take}
use Rattle.run_schedule.specs.Source.{source_for}
use Rattle.isolate_progress.proofs.sessions.source_of.Given as goal

abbrev pub invariant-loop-session : goal.invariant-loop-session
invariant-loop-session l = l.source ≡ source_for l.base (take l.session-index l.running)
