use Rattle.prof_lines.proofs.FirstLine.{last_line, ended_line}
use Rattle.prof_lines.proofs.lines.first_line.Goals as goal

pub returns-in-empty-clause-lines : goal.returns-in-empty-clause-lines
returns-in-empty-clause-lines c = last_line _ _ _ _ c.requires c.len_before-len.ensures.len c.split_at.ensures.front c.split_at.ensures.back c.in-empty.len_below

pub returns-in-len1-up-clause-lines : goal.returns-in-len1-up-clause-lines
returns-in-len1-up-clause-lines c = ended_line _ _ _ _ c.requires c.len_before-len.ensures.len c.split_at.ensures.front c.split_at.ensures.back
