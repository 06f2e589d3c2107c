use Rattle.std.proofs.Common.{◌∙◌, ap, length, map}
use Rattle.std.proofs.lemmas.List.{take_at, length-map}
use Rattle.code_event.specs.DeoptReasons.{reasons_in}
use Rattle.code_map.specs.CodeMap.{HasReasons, node_with_reason}
use Rattle.code_map.proofs.LatestReason.{nodes_filled}
use Rattle.code_map.proofs.map.CodeMap.fill_reasons.Goals as goal

pub returns : goal.returns
unfolding HasReasons
returns c = λ reasons of.
    let kept = reasons_in c.deref.result.now in
    ap (λ ns. record c.args.finished.now { nodes = ns })
    (c.from_vec.ensures
    ∙ take_at c.fill_nodes.new.nodes _ _ (ap length c.in_ok-fill_nodes.ensures ∙ length-map c.deref_mut.result.now (node_with_reason kept) ∙ c.deref_mut.ensures.len)
    ∙ c.in_ok-fill_nodes.ensures
    ∙ ap (map (node_with_reason kept)) (c.deref_mut.ensures.value ∙ c.into_vec-nodes.ensures ∙ c.replace.ensures.value)
    ∙ ap (λ rs. map (node_with_reason (reasons_in rs)) c.args.finished.now.nodes) (c.deref.ensures.value ∙ ap (λ m. m.reasons) c.self.view_is)
    ∙ nodes_filled (reasons_in c.args.self.now.reasons) reasons c.args.finished.now.nodes of)
