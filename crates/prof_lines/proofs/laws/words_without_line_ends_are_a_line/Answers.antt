use Rattle.prof_lines.proofs.CanonicalLines.{is_line, word_one_line, quoted_one_line, decimal_begins_line}
use Rattle.prof_lines.proofs.laws.words_without_line_ends_are_a_line.Goals as goal

pub returns-clause-line : goal.returns-clause-line
returns-clause-line c = λ first words begins one all. is_line first words begins one all

pub returns-clause-word : goal.returns-clause-word
returns-clause-word c = λ word plain. word_one_line word plain

pub returns-clause-quoted : goal.returns-clause-quoted
returns-clause-quoted c = λ text is_text. quoted_one_line text is_text

pub returns-clause-number : goal.returns-clause-number
returns-clause-number c = λ n small. decimal_begins_line n small
