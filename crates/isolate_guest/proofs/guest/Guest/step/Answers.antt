use Rattle.isolate_guest.proofs.Moments.{step_leads}
use Rattle.isolate_guest.proofs.guest.Guest.step.Goals as goal

pub returns-clause-steps : goal.returns-clause-steps
returns-clause-steps c =
    step_leads c.args.self.now.machine c.step.new.self c.step.result c.requires.going c.step.ensures.whole c.step.ensures.program c.step.ensures.reflects c.step.ensures.rules
