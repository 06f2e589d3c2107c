use Rattle.code_space.proofs.Owners.{addresses_have_one_owner}
use Rattle.code_space.proofs.laws.addresses_have_one_owner.Goals as goal

pub returns : goal.returns
returns c = record { owner = addresses_have_one_owner }
