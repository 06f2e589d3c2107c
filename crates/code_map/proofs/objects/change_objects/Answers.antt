use Rattle.std.proofs.Common.{sym, subst}
use Rattle.std.specs.List.{AllByRecursion}
use Rattle.std.proofs.lemmas.Result.{on_ok_weaker}
use Rattle.code_map.specs.Objects.{IsCode}
use Rattle.code_map.proofs.CodeStays.{code_with_range, code_without_range, code_moved}
use Rattle.code_map.proofs.objects.change_objects.Goals as goal

pub returns-in_ok-copy-in-Create-clause-code : goal.returns-in_ok-copy-in-Create-clause-code
returns-in_ok-copy-in-Create-clause-code c = λ code.
    on_ok_weaker c.put_object.result
    (λ put. subst (AllByRecursion IsCode) (sym put) (code_with_range c.args.objects.now.items c.new.result code.each c.new.ensures.code))
    c.put_object.ensures

pub returns-in-Move-clause-code : goal.returns-in-Move-clause-code
returns-in-Move-clause-code c = λ code.
    on_ok_weaker c.move_object.result
    (λ moved. subst (AllByRecursion IsCode) (sym moved) (code_moved c.in-Move.from c.in-Move.to c.args.objects.now.items code.each))
    (c.move_object.ensures code)

pub returns-in-Delete-clause-code : goal.returns-in-Delete-clause-code
returns-in-Delete-clause-code c = λ code.
    subst (AllByRecursion IsCode) (sym c.remove_object.ensures) (code_without_range c.args.objects.now.items c.in-Delete.start code.each)
