use Rattle.std.proofs.Common.{◌≡◌, drop, map}
use Rattle.code_event.specs.Seen.{seen_by}
use Rattle.code_event.specs.Recording.{recording, recording_behind}
use Rattle.reference_profile.proofs.recording.recorded.Given as goal

abbrev pub invariant-loop-one : goal.invariant-loop-one
invariant-loop-one l = recording_behind l.session.0 l.begun (map seen_by (drop l.one-index l.seen)) ≡ recording l.session.0 (map seen_by l.seen)
