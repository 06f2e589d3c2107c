use Rattle.isolate_guest.proofs.Moments.{opens_at}
use Rattle.isolate_guest.proofs.guest.Guest.new.Goals as goal

pub returns-clause-opens : goal.returns-clause-opens
returns-clause-opens c =
    opens_at c.args.program c.in_ok-machine.machine c.in_ok-machine.event c.in_ok-machine.ensures.whole c.in_ok-machine.ensures.program c.in_ok-machine.ensures.reflects c.in_ok-machine.ensures.opens
