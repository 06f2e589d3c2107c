use Rattle.guest_text.proofs.ProgramTexts.{written_spells}
use Rattle.guest_text.proofs.writing.write_program.Goals as goal

pub returns-clause-spells : goal.returns-clause-spells
returns-clause-spells c = written_spells c.write_functions.result c.funcs.result.now c.args.program.now c.write_functions.ensures c.funcs.ensures.functions c.funcs.ensures.rules
