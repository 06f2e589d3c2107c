use Rattle.std.proofs.Common.{◌++◌, ◌∷◌, [], ap₂, sym, ◌∙◌, subst, arith}
use Rattle.std.specs.List.{AllByRecursion}
use Rattle.cpuprofile.specs.Given.{HasSmallNumbers}
use Rattle.cpuprofile.proofs.Converted.{file_nodes-push}
use Rattle.cpuprofile.proofs.Each.{each_push}
use Rattle.cpuprofile.proofs.convert.file_nodes.Goals as goal

pub loop-at-preserved : goal.loop-at-preserved
loop-at-preserved c = record {
  exact =
      c.in_ok-push.ensures.items
      ∙ ap₂ (λ made node. made ++ node ∷ []) c.loop-at.invariant.exact c.in_ok-file_node.ensures.exact
      ∙ sym (file_nodes-push c.args.nodes.now c.loop-at.at c.index-nodes-at.result c.index-nodes-at.result (omega arith) c.index-nodes-at.is);
  small = subst (AllByRecursion HasSmallNumbers) (sym c.in_ok-push.ensures.items) (each_push HasSmallNumbers c.loop-at.made.items c.in_ok-file_node.field-0 c.loop-at.invariant.small c.in_ok-file_node.ensures.small);
}
