use Rattle.prof_lines.proofs.PlainWords.{word_place, fixed_takes, fixed_again}
use Rattle.prof_lines.proofs.Numbers.{number_place}
use Rattle.prof_lines.proofs.Labels.{label_place}
use Rattle.prof_lines.proofs.QuotedForms.{quoted_place}
use Rattle.prof_lines.proofs.Ends.{end_takes, end_again}
use Rattle.prof_lines.proofs.laws.places_are_read_as_spelled.Goals as goal

pub returns-clause-word : goal.returns-clause-word
returns-clause-word g c = word_place

pub returns-clause-fixed : goal.returns-clause-fixed
returns-clause-fixed g c = λ wanted bytes rest word. (fixed_takes wanted bytes rest, fixed_again wanted bytes rest word)

pub returns-clause-number : goal.returns-clause-number
returns-clause-number g c = λ least most small. number_place least most small

pub returns-clause-label : goal.returns-clause-label
returns-clause-label g c = label_place

pub returns-clause-quoted : goal.returns-clause-quoted
returns-clause-quoted g c = quoted_place

pub returns-clause-end : goal.returns-clause-end
returns-clause-end g c = λ bytes. (end_takes bytes tt, end_again bytes)
