use Rattle.schedule_fit.proofs.Reaching.{fits_only_there}
use Rattle.schedule_fit.proofs.running.is_reached.Goals as goal

pub returns-else-steps-entry-clause-fits : goal.returns-else-steps-entry-clause-fits
returns-else-steps-entry-clause-fits c =
    let machine = c.advance.new.machine in
    let runs = c.in_ok-advance.ensures.runs in
    fits_only_there c.args.machine.now machine c.steps.result c.args.entry.now.step c.args.entry.now.what c.in_ok-advance.ensures.program runs c.in_ok-advance.ensures.reached
    (c.steps.ensures.plain machine.steps runs.events runs.reflects) c.if-steps-entry.false
