use Rattle.prof_lines.specs.Refused.{FoundAfter}
use Rattle.prof_lines.specs.Values.{PassesAfter}
use Rattle.prof_lines.proofs.Causes.{refuses_found}
use Rattle.prof_lines.proofs.Refusals.{line_refuses, lines_refused, text_refused}
use Rattle.prof_lines.proofs.laws.texts_are_refused_at_the_first_fault.Goals as goal

pub returns-clause-line : goal.returns-clause-line
returns-clause-line g c = λ read fits words fault forms before. line_refuses read (PassesAfter fits) words fault (FoundAfter read) before (forms before) (refuses_found (read before))

pub returns-clause-lines : goal.returns-clause-lines
returns-clause-lines g c = λ read fits words fault forms lines place.
    lines_refused read (PassesAfter fits) words fault (FoundAfter read) forms (λ before. refuses_found (read before)) lines place

pub returns-clause-text : goal.returns-clause-text
returns-clause-text g c = λ read fits words fault end forms text place.
    text_refused read (PassesAfter fits) words fault (FoundAfter read) end forms (λ before. refuses_found (read before)) text place
