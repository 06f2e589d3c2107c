use Rattle.schedule_ports.proofs.Turned.{openings_on, turns_stay}
use Rattle.schedule_ports.proofs.laws.turns_stay_on_the_schedule.Goals as goal

pub returns : goal.returns
returns c = record { stay = turns_stay; opened = openings_on }
