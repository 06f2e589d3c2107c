use Rattle.std.proofs.Common.{refl}
use Rattle.record_text.proofs.ScriptForms.{start_is}
use Rattle.record_text.proofs.script_form.start_every.Goals as goal

pub returns : goal.returns
returns c = start_is _ refl
