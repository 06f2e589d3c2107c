use Rattle.std.proofs.Common.{◌≡◌, Some, ◌∙◌, ap, sym, subst, length}
use Rattle.std.specs.List.{insert}
use Rattle.std.specs.Option.{option_copied_mut}
use Rattle.slab.specs.Slab.{Slab, slab_len}
use Rattle.profile_tree.specs.Node.{LinkedNode, fresh}
use Rattle.profile_tree.specs.Arena.{nodes_in, IsDense}
use Rattle.profile_tree.proofs.ArenaNodes.{pushed_child, pushed_child_dense, not_absent, length-nodes_in}
use Rattle.profile_tree.proofs.arena.Arena.push_child.Goals as goal
use Rattle.profile_tree.proofs.arena.Arena.push_child.Goals.{in-Some+in_ok-insert_child, in_default}

pub invariant_of-self-2 : goal.invariant_of-self-2
invariant_of-self-2 c =
    let before = c.reserve.new.self in
    let kept : nodes_in before ≡ c.args.self.now = ap nodes_in c.in_ok-reserve.ensures.rest_kept ∙ c.self.view_is in
    let dense : IsDense before = subst IsDense (sym c.in_ok-reserve.ensures.rest_kept) c.self.invariant in
    let count : slab_len c.self.inside.slab ≡ length c.args.self.now = sym (length-nodes_in c.self.inside.slab) ∙ ap length c.self.view_is in
    elim c.match-get_mut.branch [
      | in-Some+in_ok-insert_child w ↦
          pushed_child_dense before c.match-get_mut.self-inside.slab c.insert_reserved.new.self c.args.self.now c.args.parent c.args.at c.insert_reserved.result c.args.step.now
          w.in-Some.node.now w.insert_child.new.self c.new-child.result kept c.requires.within (sym c.get_mut.ensures.value ∙ ap option_copied_mut w.in-Some.is)
          (ap (λ inside. inside.slab) w.self-inside-is)
          (w.in_ok-insert_child.ensures.ok ∙ ap {B = LinkedNode} (λ k. record w.in-Some.node.now { children = insert w.in-Some.node.now.children c.args.at k }) (c.len-key.ensures ∙ count))
          (c.new-child.ensures ∙ ap (λ step. fresh c.args.parent (Some step)) c.in_ok-copy.ensures)
          (c.insert_reserved.ensures.key ∙ ap (λ inside. inside.slab.vacant_key) w.self-inside-is ∙ ap {A = Slab LinkedNode} (λ s. s.vacant_key) c.in_ok-reserve.ensures.rest_kept
          ∙ sym c.vacant_key.ensures.value ∙ c.if-vacant_key-key.false ∙ c.len-key.ensures ∙ count)
          c.insert_reserved.ensures.len c.insert_reserved.ensures.updates dense
      | in_default w ↦
          absurd (not_absent before c.args.self.now c.args.parent dense kept c.requires.within (sym c.get_mut.ensures.value ∙ ap option_copied_mut w.in_default.is))
    ]

pub returns-clause-ok : goal.returns-clause-ok
returns-clause-ok c =
    let before = c.reserve.new.self in
    let kept : nodes_in before ≡ c.args.self.now = ap nodes_in c.in_ok-reserve.ensures.rest_kept ∙ c.self.view_is in
    let dense : IsDense before = subst IsDense (sym c.in_ok-reserve.ensures.rest_kept) c.self.invariant in
    let count : slab_len c.self.inside.slab ≡ length c.args.self.now = sym (length-nodes_in c.self.inside.slab) ∙ ap length c.self.view_is in
    elim c.match-get_mut.branch [
      | in-Some+in_ok-insert_child w ↦
          pushed_child before c.match-get_mut.self-inside.slab c.insert_reserved.new.self c.args.self.now c.args.parent c.args.at c.insert_reserved.result c.args.step.now
          w.in-Some.node.now w.insert_child.new.self c.new-child.result kept c.requires.within (sym c.get_mut.ensures.value ∙ ap option_copied_mut w.in-Some.is)
          (ap (λ inside. inside.slab) w.self-inside-is)
          (w.in_ok-insert_child.ensures.ok ∙ ap {B = LinkedNode} (λ k. record w.in-Some.node.now { children = insert w.in-Some.node.now.children c.args.at k }) (c.len-key.ensures ∙ count))
          (c.new-child.ensures ∙ ap (λ step. fresh c.args.parent (Some step)) c.in_ok-copy.ensures)
          (c.insert_reserved.ensures.key ∙ ap (λ inside. inside.slab.vacant_key) w.self-inside-is ∙ ap {A = Slab LinkedNode} (λ s. s.vacant_key) c.in_ok-reserve.ensures.rest_kept
          ∙ sym c.vacant_key.ensures.value ∙ c.if-vacant_key-key.false ∙ c.len-key.ensures ∙ count)
          c.insert_reserved.ensures.len c.insert_reserved.ensures.updates
      | in_default w ↦
          absurd (not_absent before c.args.self.now c.args.parent dense kept c.requires.within (sym c.get_mut.ensures.value ∙ ap option_copied_mut w.in_default.is))
    ]
