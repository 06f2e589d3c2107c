use Rattle.record_text.proofs.LegalScripts.{order_is, session_is, scripts_are_legal, in_range}
use Rattle.record_text.proofs.script_laws.scripts_keep_the_rules_where_they_are_legal.Goals as goal

pub returns : goal.returns
returns c = record { order = order_is; session = session_is; legal = scripts_are_legal; in_range = in_range }
