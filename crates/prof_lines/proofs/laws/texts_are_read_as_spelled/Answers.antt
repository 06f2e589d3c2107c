use Rattle.prof_lines.specs.Values.{PassesAfter}
use Rattle.prof_lines.proofs.Values.{text_taken, text_again}
use Rattle.prof_lines.proofs.laws.texts_are_read_as_spelled.Goals as goal

pub returns : goal.returns
returns g c = λ read fits words fault end forms text whole.
    (text_taken read (PassesAfter fits) words fault end forms text whole, text_again read (PassesAfter fits) words fault end forms text whole)
