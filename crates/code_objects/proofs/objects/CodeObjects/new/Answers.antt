use Rattle.std.proofs.Common.{◌≡◌, [], length, replicate, ap, ◌∙◌, sym, subst}
use Rattle.code_objects.proofs.Stored.{none_are, no_code_lies}
use Rattle.code_objects.specs.CodeObjects.{IsCode, layout_of, start_at}
use Rattle.code_objects.specs.Objects.{AreObjects, no_code, starts_of}
use Rattle.code_objects.proofs.objects.CodeObjects.new.Goals as goal

pub invariant_of-result : goal.invariant_of-result
invariant_of-result c =
    let codes : c.in_ok-codes.codes.items ≡ replicate (length c.args.program) no_code = c.in_ok-codes.ensures ∙ ap (λ fs. replicate (length fs) no_code) c.funcs.ensures.functions in
    subst (λ cs. AreObjects c.args.program cs c.new.result) (sym codes)
    (subst (AreObjects c.args.program (replicate (length c.args.program) no_code)) (sym c.new.ensures.empty) (none_are c.args.program c.funcs.ensures.rules.few))

pub returns-clause-nowhere : goal.returns-clause-nowhere
returns-clause-nowhere c =
    let codes : c.in_ok-codes.codes.items ≡ replicate (length c.args.program) no_code = c.in_ok-codes.ensures ∙ ap (λ fs. replicate (length fs) no_code) c.funcs.ensures.functions in
    subst (λ cs. IsCode (layout_of c.args.program) (start_at (starts_of cs)) []) (sym codes) (no_code_lies c.args.program c.funcs.ensures.rules.few)
