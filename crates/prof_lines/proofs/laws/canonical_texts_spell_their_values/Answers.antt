use Rattle.prof_lines.specs.Values.{PassesAfter}
use Rattle.prof_lines.proofs.Canonical.{joined_has, canonical, canonical_read}
use Rattle.prof_lines.proofs.laws.canonical_texts_spell_their_values.Goals as goal

pub returns-clause-line : goal.returns-clause-line
returns-clause-line g c = λ words. joined_has words

pub returns-clause-text : goal.returns-clause-text
returns-clause-text g c = λ words values lines. canonical words values lines

pub returns-clause-read : goal.returns-clause-read
returns-clause-read g c = λ read fits words fault forms lines values keeps. canonical_read read (PassesAfter fits) words fault forms lines values keeps
