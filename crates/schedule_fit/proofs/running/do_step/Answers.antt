use Rattle.schedule_fit.proofs.MachineRuns.{steps_by_1, steps_on}
use Rattle.schedule_fit.proofs.running.do_step.Goals as goal

pub returns-clause-runs : goal.returns-clause-runs
returns-clause-runs c =
    steps_on c.args.machine.now c.step.new.self c.in_ok-_done._done.events c.requires.runs c.requires.going c.requires.few c.in_ok-_done.ensures.whole c.in_ok-_done.ensures.program c.in_ok-_done.ensures.reflects

pub returns-clause-steps : goal.returns-clause-steps
returns-clause-steps c = steps_by_1 c.args.machine.now c.step.new.self c.in_ok-_done._done.events c.requires.runs c.requires.few c.in_ok-_done.ensures.reflects
