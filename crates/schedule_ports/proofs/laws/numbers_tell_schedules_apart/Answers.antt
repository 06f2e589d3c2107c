use Rattle.schedule_ports.proofs.Numbers.{numbers_tell_apart}
use Rattle.schedule_ports.proofs.laws.numbers_tell_schedules_apart.Goals as goal

pub returns : goal.returns
returns c = numbers_tell_apart
