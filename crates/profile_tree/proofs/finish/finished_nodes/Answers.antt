use Rattle.std.proofs.Common.{◌<◌, length, sym, ap, subst}
use Rattle.std.specs.Prelude.{slice_index}
use Rattle.std.specs.List.{All}
use Rattle.profile_tree.proofs.Finishing.{children_within}
use Rattle.profile_tree.proofs.finish.finished_nodes.Goals as goal

pub finished_node-requires : goal.finished_node-requires
finished_node-requires c =
    let key = slice_index c.args.order.now c.loop-key.key-index in
    subst (λ n. All (λ child. child < n) c.get.result.now.children) (sym c.requires.ids)
    (subst (λ keys. All (λ child. child < length c.args.nodes.now) keys) (sym (ap (λ n. n.children) c.get.ensures))
    (children_within c.args.nodes.now key c.requires.linked (c.requires.within c.loop-key.key-index 0 c.loop-key-test.true)))
