use Rattle.code_layout.proofs.Expanding.{layouts_are_code}
use Rattle.code_layout.proofs.Standing.{found_is_right}
use Rattle.code_layout.proofs.laws.layouts_are_code.Goals as goal

pub returns : goal.returns
returns c = record { code = layouts_are_code; found = found_is_right }
