use Rattle.code_map.proofs.FoundCode.{found_starts}
use Rattle.code_map.proofs.laws.found_code_starts_where_it_is_found.Goals as goal

pub returns : goal.returns
returns c = found_starts
