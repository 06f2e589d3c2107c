use Rattle.std.proofs.Common.{◌≢◌, ◌<◌, ◌^◌, ℕ, length, map, sym, ap, ◌∙◌, subst, arith}
use Rattle.std.specs.Prelude.{slice_index}
use Rattle.std.specs.List.{All, AllZip}
use Rattle.profile_tree.specs.Arena.{node_at}
use Rattle.profile_tree.specs.Walk.{AreIds, finished_node}
use Rattle.profile_tree.specs.Grown.{StandsFor, Names, NamesSome}
use Rattle.profile_tree.proofs.Walking.{distinct_order, preorder_long}
use Rattle.profile_tree.proofs.Finishing.{finished_is, samples_are, samples_within, hits_within}
use Rattle.profile_tree.proofs.tree.Tree.finished.Goals as goal

pub ids-requires-clause-few : goal.ids-requires-clause-few
ids-requires-clause-few c =
    omega (arith, c.as_slice.ensures.len, c.in_ok-order.order.ok.0, preorder_long c.self.inside.nodes c.in_ok-order.order.items c.in_ok-order.ensures, c.self.invariant.few)

pub ids-requires-clause-distinct : goal.ids-requires-clause-distinct
ids-requires-clause-distinct c =
    subst (λ order. (i j : ℕ) → i < j → j < length order → slice_index order i ≢ slice_index order j) (sym c.as_slice.ensures.value)
    (distinct_order c.self.inside.nodes c.in_ok-order.order.items c.in_ok-order.ensures)

pub sample_ids-requires : goal.sample_ids-requires
sample_ids-requires c =
    subst (λ n. All (λ reference. reference.key < n) c.args.samples.now) (sym (ap length c.as_slice-4.ensures.value ∙ c.in_ok-ids.ensures.len ∙ c.len.ensures))
    (samples_within c.self.inside.nodes c.args.samples.now (subst (λ tree. All (NamesSome tree) c.args.samples.now) (sym c.self.view_is) c.requires))

-- the ids of the order, as the vectors have them
are : (c : goal.After-drop-order-2) → AreIds c.in_ok-order.order.items c.in_ok-ids.ids.items
are c = subst (λ order. AreIds order c.in_ok-ids.ids.items) c.as_slice.ensures.value c.in_ok-ids.ensures.ids

pub returns-clause-nodes : goal.returns-clause-nodes
returns-clause-nodes c visits stands =
    let tree = c.self.inside.nodes in
    c.in_ok-nodes.ensures
    ∙ ap (map (λ key. finished_node c.as_slice-3.result.now (node_at tree key))) c.as_slice-2.ensures.value
    ∙ ap (λ ids. map (λ key. finished_node ids (node_at tree key)) c.in_ok-order.order.items) c.as_slice-3.ensures.value
    ∙ finished_is tree c.self.invariant c.in_ok-order.order.items c.in_ok-order.ensures c.in_ok-ids.ids.items (are c) visits (subst (λ t. StandsFor t visits) (sym c.self.view_is) stands)

pub returns-clause-samples : goal.returns-clause-samples
returns-clause-samples c visits paths stands all =
    c.in_ok-samples.ensures
    ∙ ap (λ ids. map (λ reference. slice_index ids reference.key) c.args.samples.now) c.as_slice-4.ensures.value
    ∙ samples_are c.self.inside.nodes c.self.invariant c.in_ok-order.order.items c.in_ok-order.ensures c.in_ok-ids.ids.items (are c) visits
    (subst (λ t. StandsFor t visits) (sym c.self.view_is) stands) c.args.samples.now paths (subst (λ t. AllZip (Names t) c.args.samples.now paths) (sym c.self.view_is) all)

pub returns-clause-few_hits : goal.returns-clause-few_hits
returns-clause-few_hits c =
    let tree = c.self.inside.nodes in
    subst (All (λ node. node.hits < 2 ^ 53)) (sym c.in_ok-nodes.ensures)
    (hits_within tree c.self.invariant c.as_slice-3.result.now c.as_slice-2.result.now (subst (All (λ key. key < length tree)) (sym c.as_slice-2.ensures.value) c.in_ok-order.ensures.within))
