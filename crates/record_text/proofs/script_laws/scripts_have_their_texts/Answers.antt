use Rattle.record_text.proofs.Scripts.{texts_spell_one}
use Rattle.record_text.proofs.CanonicalScripts.{canonical_scripts, canonical_texts_are_read, scripts_have_their_texts}
use Rattle.record_text.proofs.script_laws.scripts_have_their_texts.Goals as goal

pub returns : goal.returns
returns c = record { spell = canonical_scripts; read = canonical_texts_are_read; one = texts_spell_one; texts = scripts_have_their_texts }
