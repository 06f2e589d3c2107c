use Rattle.prof_lines.proofs.EndForms.{optional_form, numbers_form}
use Rattle.prof_lines.proofs.laws.line_ends_are_read_as_spelled.Goals as goal

pub returns-clause-optional : goal.returns-clause-optional
returns-clause-optional g c = λ wanted word. optional_form wanted word

pub returns-clause-numbers : goal.returns-clause-numbers
returns-clause-numbers g c = λ least most room small. numbers_form least most room small
