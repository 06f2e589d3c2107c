use Rattle.std.proofs.Common.{◌++◌, ◌∙◌, ap, codes, decimal}
use Rattle.std.proofs.lemmas.Result.{on_ok_weaker}
use Rattle.code_event.specs.FileText.{children_text, reason_text}
use Rattle.cpuprofile.specs.ProfileText.{call_frame_text, all_ticks_text}
use Rattle.cpuprofile.proofs.Appends.{appended_10}
use Rattle.cpuprofile.proofs.write.put_node.Goals as goal

pub returns : goal.returns
returns c =
    on_ok_weaker c.put-4.result
    (λ last. appended_10 c.args.out.now.items
    (codes "{\"id\":")
    (decimal c.args.node.now.id)
    (codes ",\"callFrame\":")
    (call_frame_text c.args.node.now)
    (codes ",\"hitCount\":")
    (decimal c.args.node.now.hits)
    (children_text c.args.node.now.children)
    (all_ticks_text c.args.node.now.ticks)
    (reason_text c.args.node.now.reason)
    (codes "}")
    c.put.new.out.items
    c.put_decimal.new.out.items
    c.put-2.new.out.items
    c.put_call_frame.new.out.items
    c.put-3.new.out.items
    c.put_decimal-2.new.out.items
    c.put_children.new.out.items
    c.put_ticks.new.out.items
    c.put_reason.new.out.items
    c.put-4.new.out.items
    c.in_ok-put.ensures
    c.in_ok-put_decimal.ensures
    c.in_ok-put-2.ensures
    c.in_ok-put_call_frame.ensures
    c.in_ok-put-3.ensures
    c.in_ok-put_decimal-2.ensures
    (c.in_ok-put_children.ensures ∙ ap (λ x. c.put_decimal-2.new.out.items ++ children_text x) c.as_slice.ensures)
    (c.in_ok-put_ticks.ensures ∙ ap (λ x. c.put_children.new.out.items ++ all_ticks_text x) c.as_slice-2.ensures)
    c.in_ok-put_reason.ensures last)
    c.put-4.ensures
