use Rattle.std.proofs.Common.{◌<◌, arith, subst, sym}
use Rattle.isolate_acts.specs.Progress.{Progress, entry_count}
use Rattle.isolate_acts.proofs.Within.{small_time}
use Rattle.isolate_progress.proofs.Entered.{put_held}
use Rattle.isolate_progress.proofs.progress.IsoProgress.enter.Goals as goal

pub invariant_of-self : goal.invariant_of-self
invariant_of-self c =
    let before = small_time c.args.self.now c.args.now in
    put_held _ c.self.inside.latest c.self.inside.sessions c.follow.new.self c.enter.new.self _ c.args.raised c.one_if.result c.self.invariant c.requires.port
    (subst (λ (p : Progress). entry_count p < p.schedule.limit) (sym c.self.view_is) c.requires.room)
    (omega (arith, before, c.entry_time-time.ensures.value)) c.requires.raised c.one_if.ensures.few c.enter.ensures c.follow.ensures
