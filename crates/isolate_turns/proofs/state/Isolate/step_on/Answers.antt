use Rattle.std.proofs.Common.{◌<◌, [], ◌∷◌, ap, arith, ◌∙◌}
use Rattle.run_schedule.specs.declared.schedule.EndCause.TheVariants as cause
use Rattle.isolate_acts.specs.Calls.{read, with_calls}
use Rattle.isolate_acts.specs.Phases.{closing, stepping}
use Rattle.isolate_acts.specs.Progress.{entry_count}
use Rattle.isolate_turns.proofs.Going.{goes_after, goes_short, now_ended, printed_next, step_run}
use Rattle.isolate_turns.proofs.state.Isolate.step_on.Goals as goal

pub returns-in-Ok-clause-goes : goal.returns-in-Ok-clause-goes
returns-in-Ok-clause-goes g c = λ moment is.
    let at = is.at c.requires.going in
    let done = c.in-Ok.ensures.ok moment at in
    let printed = printed_next moment done.0 done.1 _ done.3 (c.in-Ok.ensures.printed moment at is.printed_is) in
    let rest = c.close_turn.ensures.goes done.0 (record { at = λ going. done.2; printed_is = printed }) in
    let runs = step_run moment done.0 c.args.self.now.progress c.do_step.new.self.progress _ _ _ done.1 c.requires.going c.requires.budget done.3 done.4 done.5 in
    (rest.0, rest.1, goes_after _ _ _ stepping closing c.close_turn.result runs rest.2)

pub returns-in-Err-clause-goes : goal.returns-in-Err-clause-goes
returns-in-Err-clause-goes g c = λ moment is.
    let p = c.args.self.now.progress in
    let cut = c.in-Err.ensures.err moment (is.at c.requires.going) in
    let place : entry_count p < p.schedule.limit = let room = c.requires.room in omega arith in
    let printed = ap (λ v. v.items) c.end_short.ensures.printed ∙ c.in-Err.ensures.err_printed in
    let read_is = c.now-now.ensures.calls ∙ ap (λ step. with_calls (g.P.IsoPorts.calls c.args.ports.now) (read step c.now-now.result ∷ [])) c.step.ensures.value in (
      moment,
      now_ended _ _ _ _ moment cause.Memory c.end_short.ensures.ended printed is.printed_is,
      goes_short moment p c.do_step.new.self.progress _ _ _ _ _ _ _ cut.0 c.in-Err.raised c.now-now.result c.in-Err.ensures.err_progress cut.1 c.requires.going place cut.2
          (c.end_short.ensures.progress cut.0 cut.1) read_is c.end_short.ensures.calls cut.3 c.end_short.ensures.more,
    )
