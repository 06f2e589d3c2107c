use Rattle.prof_lines.specs.Causes.{FoundBy}
use Rattle.prof_lines.proofs.Causes.{refuses_found}
use Rattle.prof_lines.proofs.PlaceFaults.{of_word_refuses}
use Rattle.prof_lines.proofs.Chains.{refuses_chain, refuses_after_fixed, refuses_end, refuses_chosen}
use Rattle.prof_lines.proofs.laws.the_first_fault_decides.Goals as goal

pub returns-clause-of_word : goal.returns-clause-of_word
returns-clause-of_word g c = λ read. of_word_refuses read (FoundBy read) (refuses_found read)

pub returns-clause-place : goal.returns-clause-place
returns-clause-place g c = λ read fits word next place. refuses_chain read _ word (FoundBy read) next _ place (refuses_found read) (λ value. refuses_found (λ rest. next (value, rest)))

pub returns-clause-fixed : goal.returns-clause-fixed
returns-clause-fixed g c = λ wanted next word. refuses_after_fixed wanted next (FoundBy next) word (refuses_found next)

pub returns-clause-end : goal.returns-clause-end
returns-clause-end g c = λ value. refuses_end value

pub returns-clause-chosen : goal.returns-clause-chosen
returns-clause-chosen g c = λ name word named other. refuses_chosen name named other (FoundBy named) (FoundBy other) (refuses_found named) (refuses_found other) word
