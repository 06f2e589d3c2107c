use Rattle.std.proofs.Common.{subst}
use Rattle.prof_base.specs.Text.{IsText}
use Rattle.prof_outer.proofs.Naming.{draft_name-no_text}
use Rattle.prof_outer.proofs.draft.draft_name.Goals as goal

pub returns-clause-no_text : goal.returns-clause-no_text
returns-clause-no_text c text = draft_name-no_text c.args.number (subst IsText c.in_ok-format.ensures.ok text)
