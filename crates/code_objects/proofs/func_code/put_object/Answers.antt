use Rattle.code_objects.proofs.Codes.{written}
use Rattle.code_objects.proofs.func_code.put_object.Goals as goal

pub returns : goal.returns
returns c = written c.args.codes.now c.args.name c.args.object c.from.result c.index-codes-from.result c.put.new.self c.from.ensures c.requires.func c.put.ensures
