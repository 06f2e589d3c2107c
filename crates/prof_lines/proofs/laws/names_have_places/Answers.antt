use Rattle.prof_lines.proofs.Numbers.{number_naming}
use Rattle.prof_lines.proofs.Places.{naming_place}
use Rattle.prof_lines.proofs.laws.names_have_places.Goals as goal

pub returns-clause-number : goal.returns-clause-number
returns-clause-number g c = λ least most small. number_naming least most small

pub returns-clause-place : goal.returns-clause-place
returns-clause-place g c = λ read fits word naming. naming_place read _ word naming
