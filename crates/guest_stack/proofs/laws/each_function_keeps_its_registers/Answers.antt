use Rattle.guest_stack.proofs.Stepping as s
use Rattle.guest_stack.proofs.laws.each_function_keeps_its_registers.Goals as goal

pub returns : goal.returns
returns c =
    record {
      going_on = s.going_on_keeps_registers;
      calling_within = s.calling_within_keeps_registers;
      calling_code = s.calling_code_keeps_registers;
      returning_within = s.returning_within_keeps_registers;
      returning_to_frame = s.returning_to_frame_keeps_registers;
    }
