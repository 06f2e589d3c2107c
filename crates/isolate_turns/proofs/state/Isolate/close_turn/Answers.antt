use Rattle.std.proofs.Common.{◌<◌, refl, ap, arith}
use Rattle.isolate_acts.specs.Phases.{closing}
use Rattle.isolate_acts.specs.Progress.{entry_count}
use Rattle.isolate_turns.proofs.Going.{goes_by_end, goes_to_next, now_ended}
use Rattle.isolate_turns.proofs.state.Isolate.close_turn.Goals as goal

pub returns-in-Some-clause-goes : goal.returns-in-Some-clause-goes
returns-in-Some-clause-goes g c = λ moment is.
    let does = c.end.ensures.does moment in
    let due = c.in-Some.ensures.due moment (is.at c.requires.going) in
    let place : entry_count c.args.self.now.progress < c.args.self.now.progress.schedule.limit = let room = c.requires.room in omega arith in (
      moment,
      now_ended _ _ _ _ moment c.in-Some.why c.end.ensures.ended (ap (λ v. v.items) c.end.ensures.printed) is.printed_is,
      goes_by_end _ _ closing c.in-Some.why does.0 (record { going = c.requires.going; place = place }, due, refl) does.1,
    )

pub returns-in-None-clause-goes : goal.returns-in-None-clause-goes
returns-in-None-clause-goes g c = λ moment is.
    (moment, is, goes_to_next _ c.requires.going c.requires.room (c.in-None.ensures.none moment (is.at c.requires.going) refl))
