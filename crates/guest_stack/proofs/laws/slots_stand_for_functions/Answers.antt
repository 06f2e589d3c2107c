use Rattle.guest_stack.proofs.Positions.{slots_stand, found_slots_stand, units_stand_below_calls, first_units_stand_alone, inlined_units_are_called}
use Rattle.guest_stack.proofs.laws.slots_stand_for_functions.Goals as goal

pub returns : goal.returns
returns c = record { slots = slots_stand; found = found_slots_stand; inlined = units_stand_below_calls; first = first_units_stand_alone; called = inlined_units_are_called }
