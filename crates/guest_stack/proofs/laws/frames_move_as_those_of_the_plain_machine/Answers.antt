use Rattle.guest_stack.proofs.Stepping as s
use Rattle.guest_stack.proofs.laws.frames_move_as_those_of_the_plain_machine.Goals as goal

pub returns : goal.returns
returns c =
    record {
      begins = s.begins;
      youngest = s.youngest_is_at_slot;
      goes_on = s.goes_on;
      calls_within = s.calls_within;
      calls_code = s.calls_code;
      returns_within = s.returns_within;
      returns_to_frame = s.returns_to_frame;
      last = s.last_returns;
    }
