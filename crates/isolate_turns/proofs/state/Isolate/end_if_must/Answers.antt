use Rattle.std.proofs.Common.{◌≡◌, true, false, ap, sym, ◌∙◌}
use Rattle.std.specs.Prelude.{Bool, ◌&&◌, ◌||◌, not, if◌then◌else◌}
use Rattle.run_schedule.specs.declared.schedule.EndCause.TheVariants as cause
use Rattle.isolate_acts.specs.Progress.{goes_on, is_filled}
use Rattle.isolate_turns.proofs.CommandRuns.{ended_runs, end_stays, free_runs, going_is, some_moment}
use Rattle.isolate_turns.proofs.state.Isolate.end_if_must.Goals as goal

pub returns-then-not-goes_on-clause-runs : goal.returns-then-not-goes_on-clause-runs
returns-then-not-goes_on-clause-runs g c moment port commands =
    free_runs _ c.args.is_taken port commands (ap (λ (b : Bool). b && (is_filled c.args.self.now.progress || not c.args.is_taken)) (sym c.goes_on.ensures.value ∙ c.if-not-goes_on.true))

pub returns-then-is_filled-clause-runs : goal.returns-then-is_filled-clause-runs
returns-then-is_filled-clause-runs g c moment port commands =
    let going = going_is c.args.self.now.progress (sym c.goes_on.ensures.value ∙ c.if-not-goes_on.false) in
    let filled : is_filled c.args.self.now.progress ≡ true = sym c.is_filled.ensures.value ∙ c.if-is_filled.true in
    let ended = c.end.ensures.does moment in
    ended_runs _ _ c.args.is_taken port commands cause.Full ended.0 going (ap (λ (b : Bool). b || not c.args.is_taken) filled)
    (sym (ap (λ (b : Bool). if b then cause.Full else cause.Memory) filled)) (c.requires.place going) ended.1

pub returns-then-is_filled-clause-stays : goal.returns-then-is_filled-clause-stays
returns-then-is_filled-clause-stays g c = let ended = c.end.ensures.does some_moment in end_stays _ _ cause.Full ended.0 ended.1 c.end.ensures.adds

pub returns-then-not-is_taken-clause-runs : goal.returns-then-not-is_taken-clause-runs
returns-then-not-is_taken-clause-runs g c moment port commands =
    let going = going_is c.args.self.now.progress (sym c.goes_on.ensures.value ∙ c.if-not-goes_on.false) in
    let unfilled : is_filled c.args.self.now.progress ≡ false = sym c.is_filled.ensures.value ∙ c.if-is_filled.false in
    let ended = c.end-then-not-is_taken.ensures.does moment in
    ended_runs _ _ c.args.is_taken port commands cause.Memory ended.0 going (ap (λ (b : Bool). b || not c.args.is_taken) unfilled ∙ ap (λ (b : Bool). not b) c.if-not-is_taken.true)
    (sym (ap (λ (b : Bool). if b then cause.Full else cause.Memory) unfilled)) (c.requires.place going) ended.1

pub returns-then-not-is_taken-clause-stays : goal.returns-then-not-is_taken-clause-stays
returns-then-not-is_taken-clause-stays g c = let ended = c.end-then-not-is_taken.ensures.does some_moment in end_stays _ _ cause.Memory ended.0 ended.1 c.end-then-not-is_taken.ensures.adds

pub returns-else-not-is_taken-clause-runs : goal.returns-else-not-is_taken-clause-runs
returns-else-not-is_taken-clause-runs g c moment port commands =
    let goes : goes_on c.args.self.now.progress ≡ true = sym c.goes_on.ensures.value ∙ c.if-not-goes_on.false in
    let unfilled : is_filled c.args.self.now.progress ≡ false = sym c.is_filled.ensures.value ∙ c.if-is_filled.false in
    free_runs _ c.args.is_taken port commands (λ i. goes i && (unfilled i || not (c.if-not-is_taken.false i)))
