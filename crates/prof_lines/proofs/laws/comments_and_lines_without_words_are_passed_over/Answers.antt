use Rattle.prof_lines.proofs.LineLaws.{passed_iff}
use Rattle.prof_lines.proofs.laws.comments_and_lines_without_words_are_passed_over.Goals as goal

pub returns : goal.returns
returns c = λ line. passed_iff line
