use Rattle.record_text.proofs.ScheduleDrafts.{few_started, room_for, kept_more}
use Rattle.record_text.proofs.schedule_draft.ScheduleDraft.with.Goals as goal

pub after-requires : goal.after-requires
after-requires c = few_started c.self.inside.schedule c.self.inside.sampled c.self.inside.sessions c.args.entry c.args.self c.self.invariant c.self.view_is c.requires.fault

pub enter-requires-clause-room : goal.enter-requires-clause-room
enter-requires-clause-room c = room_for c.self.inside.schedule c.args.entry c.args.self c.self.view_is c.requires.fault

pub invariant_of-result : goal.invariant_of-result
invariant_of-result c =
    kept_more c.self.inside.schedule c.enter.new.self c.self.inside.sampled c.counted-sampled.result c.self.inside.sessions c.in_ok-sessions.sessions c.args.entry c.args.self
    c.self.invariant c.self.view_is c.requires.fault c.in_ok-sessions.ensures c.counted-sampled.ensures c.enter.ensures
