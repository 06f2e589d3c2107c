use Rattle.prof_lines.proofs.Missing.{missing_iff}
use Rattle.prof_lines.proofs.laws.a_plain_word_is_missing_or_not_plain.Goals as goal

pub returns : goal.returns
returns c = λ bytes. missing_iff bytes
