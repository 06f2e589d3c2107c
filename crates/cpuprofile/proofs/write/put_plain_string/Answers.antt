use Rattle.std.proofs.Common.{◌++◌, ◌∷◌, [], ◌∙◌, ap, sym, codes}
use Rattle.std.proofs.lemmas.Result.{on_ok_weaker}
use Rattle.cpuprofile.proofs.Appends.{appended_3}
use Rattle.cpuprofile.proofs.Escapes.{escape-none}
use Rattle.cpuprofile.proofs.write.put_plain_string.Goals as goal

pub returns : goal.returns
returns c =
    on_ok_weaker c.put-2.result
    (λ last. appended_3 c.args.out.now.items (codes "\"") c.args.bytes.now (codes "\"") c.put.new.out.items c.extend_from_slice.new.self.items c.put-2.new.out.items c.in_ok-put.ensures c.in_ok-extend_from_slice.ensures.items last
    ∙ ap (λ text. c.args.out.now.items ++ (34 ∷ (text ++ 34 ∷ []))) (sym (escape-none c.args.bytes.now c.requires)))
    c.put-2.ensures
