use Rattle.code_map.proofs.AfterEvents.{new_maps_have_nothing, events_add_up, look_ups_change_nothing, maps_are_as_events_leave_them}
use Rattle.code_map.proofs.laws.maps_are_as_events_leave_them.Goals as goal

pub returns-clause-begins : goal.returns-clause-begins
returns-clause-begins c = new_maps_have_nothing

pub returns-clause-goes_on : goal.returns-clause-goes_on
returns-clause-goes_on c = events_add_up

pub returns-clause-stays : goal.returns-clause-stays
returns-clause-stays c = look_ups_change_nothing

pub returns-clause-whole : goal.returns-clause-whole
returns-clause-whole c = maps_are_as_events_leave_them
