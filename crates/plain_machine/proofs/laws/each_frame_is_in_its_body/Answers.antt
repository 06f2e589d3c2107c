use Rattle.plain_machine.proofs.InBody.{frames_are_in_bodies, frames_have_instructions}
use Rattle.plain_machine.proofs.laws.each_frame_is_in_its_body.Goals as goal

pub returns : goal.returns
returns c = record { in_body = frames_are_in_bodies; instruction = frames_have_instructions }
