use Rattle.cpuprofile.proofs.SeenGives.{seen_gives}
use Rattle.cpuprofile.proofs.laws.what_is_seen_gives_profiles.Goals as goal

pub returns : goal.returns
returns c = seen_gives
