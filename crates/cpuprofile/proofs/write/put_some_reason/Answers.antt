use Rattle.std.proofs.Common.{◌++◌, codes, ap, ◌∙◌, length, arith}
use Rattle.std.proofs.lemmas.Result.{on_ok_weaker}
use Rattle.json.specs.Print.{quoted}
use Rattle.cpuprofile.proofs.Appends.{appended_2, reason_text-some}
use Rattle.cpuprofile.proofs.write.put_some_reason.Goals as goal

pub returns-in_ok-put-in-len1-up : goal.returns-in_ok-put-in-len1-up
returns-in_ok-put-in-len1-up c =
    on_ok_weaker c.put_string.result
    (λ last. appended_2 c.args.out.now.items (codes ",\"deoptReason\":") (quoted c.args.text.now) c.put.new.out.items c.put_string.new.out.items c.in_ok-put-in-len1-up.ensures last
    ∙ ap (λ text. c.args.out.now.items ++ text) (reason_text-some c.args.text.now (omega (arith, ap length c.bytes.ensures.bytes))))
    c.put_string.ensures
