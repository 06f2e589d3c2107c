use Rattle.guest_stack.proofs.GivingUp.{plain_code_frames_stand, given_up_stand, given_up_are_in_code, none_is_in_given_up_code}
use Rattle.guest_stack.proofs.laws.giving_up_code_leaves_the_stack.Goals as goal

pub returns : goal.returns
returns c = record { plain = plain_code_frames_stand; same = given_up_stand; in_code = given_up_are_in_code; none_left = none_is_in_given_up_code }
