use Rattle.prof_lines.proofs.PlaceFaults.{word_refuses, fixed_refuses, number_of_refuses, number_refuses, label_refuses, quoted_refuses, end_refuses}
use Rattle.prof_lines.proofs.EndFaults.{optional_refuses, numbers_refuse}
use Rattle.prof_lines.proofs.laws.faults_have_their_causes.Goals as goal

pub returns-clause-number_of : goal.returns-clause-number_of
returns-clause-number_of g c = λ least most small. number_of_refuses least most small

pub returns-clause-word : goal.returns-clause-word
returns-clause-word g c = word_refuses

pub returns-clause-fixed : goal.returns-clause-fixed
returns-clause-fixed g c = λ wanted word. fixed_refuses wanted word

pub returns-clause-number : goal.returns-clause-number
returns-clause-number g c = λ least most small. number_refuses least most small

pub returns-clause-label : goal.returns-clause-label
returns-clause-label g c = label_refuses

pub returns-clause-quoted : goal.returns-clause-quoted
returns-clause-quoted g c = quoted_refuses

pub returns-clause-end : goal.returns-clause-end
returns-clause-end g c = end_refuses

pub returns-clause-optional : goal.returns-clause-optional
returns-clause-optional g c = λ wanted word. optional_refuses wanted word

pub returns-clause-numbers : goal.returns-clause-numbers
returns-clause-numbers g c = λ least most room small. numbers_refuse least most small room
