use Rattle.prof_lines.proofs.Folds.{first_fault_iff, text_fault_iff}
use Rattle.prof_lines.proofs.laws.reading_stops_at_the_first_fault.Goals as goal

pub returns-clause-lines : goal.returns-clause-lines
returns-clause-lines g c = λ read start lines place. first_fault_iff read start lines place

pub returns-clause-text : goal.returns-clause-text
returns-clause-text g c = λ read end start text place. text_fault_iff read end start text place
