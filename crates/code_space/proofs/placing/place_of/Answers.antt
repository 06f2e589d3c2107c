use Rattle.std.proofs.Common.{◌∙◌, sym}
use Rattle.code_space.proofs.Inserting.{insert_before, insert_last}
use Rattle.code_space.proofs.placing.place_of.Goals as goal

pub returns-in-Some-clause-ordered : goal.returns-in-Some-clause-ordered
returns-in-Some-clause-ordered c = λ new is. insert_before c.args.start c.in-Some.at c.args.ranges.now new (sym c.first_above.ensures ∙ c.in-Some.is) is

pub returns-in-None-clause-ordered : goal.returns-in-None-clause-ordered
returns-in-None-clause-ordered c = λ new is. insert_last c.args.start c.args.ranges.now new (sym c.first_above.ensures ∙ c.in-None.is) is
