use Rattle.std.proofs.Common.{◌++◌, ◌∙◌, ap, codes, decimal, map}
use Rattle.std.specs.Fmt.{signed_decimal}
use Rattle.std.proofs.lemmas.Result.{on_ok_weaker}
use Rattle.code_event.specs.FileText.{list_text}
use Rattle.cpuprofile.specs.ProfileText.{node_text}
use Rattle.cpuprofile.proofs.Appends.{appended_11}
use Rattle.cpuprofile.proofs.write.put_profile.Goals as goal

pub returns : goal.returns
returns c =
    on_ok_weaker c.put-6.result
    (λ last. appended_11 c.args.out.now.items
    (codes "{\"nodes\":")
    (list_text (map node_text c.args.profile.now.nodes))
    (codes ",\"startTime\":")
    (decimal c.args.profile.now.start)
    (codes ",\"endTime\":")
    (decimal c.args.profile.now.end)
    (codes ",\"samples\":")
    (list_text (map decimal c.args.profile.now.samples))
    (codes ",\"timeDeltas\":")
    (list_text (map signed_decimal c.args.profile.now.deltas))
    (codes "}")
    c.put.new.out.items
    c.put_nodes.new.out.items
    c.put-2.new.out.items
    c.put_decimal.new.out.items
    c.put-3.new.out.items
    c.put_decimal-2.new.out.items
    c.put-4.new.out.items
    c.put_list.new.out.items
    c.put-5.new.out.items
    c.put_list-2.new.out.items
    c.put-6.new.out.items
    c.in_ok-put.ensures
    (c.in_ok-put_nodes.ensures ∙ ap (λ x. c.put.new.out.items ++ list_text (map node_text x)) c.as_slice.ensures)
    c.in_ok-put-2.ensures
    c.in_ok-put_decimal.ensures
    c.in_ok-put-3.ensures
    c.in_ok-put_decimal-2.ensures
    c.in_ok-put-4.ensures
    (c.in_ok-put_list.ensures ∙ ap (λ x. c.put-4.new.out.items ++ list_text (map decimal x)) c.as_slice-2.ensures)
    c.in_ok-put-5.ensures
    (c.in_ok-put_list-2.ensures ∙ ap (λ x. c.put-5.new.out.items ++ list_text (map signed_decimal x)) c.as_slice-3.ensures) last)
    c.put-6.ensures
