use Rattle.std.proofs.Common.{◌∙◌, ap, sym}
use Rattle.std.specs.Prelude.{option_map}
use Rattle.code_map.proofs.LatestReason.{reasons_in-find}
use Rattle.code_map.proofs.reasons.reason_in.Goals as goal

pub returns-in-Some : goal.returns-in-Some
returns-in-Some c = ap (option_map (λ r. r.reason)) c.in-Some.ensures ∙ sym (reasons_in-find c.args.reasons.now c.args.entry.now)

pub returns-in-None : goal.returns-in-None
returns-in-None c = ap (option_map (λ r. r.reason)) c.in-None.ensures ∙ sym (reasons_in-find c.args.reasons.now c.args.entry.now)
