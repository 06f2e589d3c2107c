use Rattle.std.proofs.Common.{◌++◌, codes, map, ap, ◌∙◌, arith}
use Rattle.std.proofs.lemmas.Result.{on_ok_weaker}
use Rattle.code_event.specs.FileText.{list_text}
use Rattle.cpuprofile.specs.ProfileText.{ticks_text}
use Rattle.cpuprofile.proofs.Appends.{appended_2, all_ticks_text-some}
use Rattle.cpuprofile.proofs.write.put_ticks.Goals as goal

pub returns-in_ok-put-in-len1-up : goal.returns-in_ok-put-in-len1-up
returns-in_ok-put-in-len1-up c =
    on_ok_weaker c.put_list.result
    (λ last. appended_2 c.args.out.now.items (codes ",\"positionTicks\":") (list_text (map ticks_text c.args.ticks.now)) c.put.new.out.items c.put_list.new.out.items c.in_ok-put-in-len1-up.ensures last
    ∙ ap (λ text. c.args.out.now.items ++ text) (all_ticks_text-some c.args.ticks.now (omega arith)))
    c.put_list.ensures
