use Rattle.std.proofs.Common.{◌≡◌, [], ◌∷◌, ◌++◌, length, refl, sym, ap, ◌∙◌, subst, inl, arith, length-append}
use Rattle.std.specs.Prelude.{reverse}
use Rattle.std.proofs.lemmas.List.{nil_from_length}
use Rattle.profile_tree.proofs.Walking.{Walked, walk_starts, walks_on, walked_long, walk_ends, turned_pop, turned_push}
use Rattle.profile_tree.proofs.walk.preorder.Goals as goal

pub loop-key-init : goal.loop-key-init
loop-key-init c =
    subst (λ order. Walked c.args.nodes.now order (reverse c.push.new.self.items)) (sym c.new-order.ensures.items)
    (subst (λ stack. Walked c.args.nodes.now [] (reverse stack)) (sym (c.in_ok-push.ensures.items ∙ ap (λ l. l ++ 0 ∷ []) c.new-stack.ensures.items)) (walk_starts c.args.nodes.now c.requires))

pub get-requires : goal.get-requires
get-requires c =
    (subst (Walked c.args.nodes.now c.loop-key.order.items) (turned_pop c.loop-key.stack.items c.pop.new.self.items c.in-Some.key c.in-Some.ensures.items) c.loop-key.invariant).pending_in c.in-Some.key (inl refl)

after : (c : goal.In_ok-push_all) → Walked c.args.nodes.now c.push-in-Some.new.self.items (reverse c.push_all.new.stack.items)
after c =
    let nodes = c.args.nodes.now in
    let before = subst (Walked nodes c.loop-key.order.items) (turned_pop c.loop-key.stack.items c.pop.new.self.items c.in-Some.key c.in-Some.ensures.items) c.loop-key.invariant in
    subst (λ order. Walked nodes order (reverse c.push_all.new.stack.items)) (sym c.in_ok-push-2.ensures.items)
    (subst (Walked nodes (c.loop-key.order.items ++ c.in-Some.key ∷ []))
    (ap (λ keys. keys ++ reverse c.pop.new.self.items) (sym (c.children.ensures ∙ ap (λ n. n.children) c.get.ensures))
    ∙ sym (turned_push c.pop.new.self.items c.push_all.new.stack.items c.children.result.now c.in_ok-push_all.ensures))
    (walks_on nodes c.requires c.loop-key.order.items (reverse c.pop.new.self.items) c.in-Some.key before))

pub loop-key-smaller : goal.loop-key-smaller
loop-key-smaller c =
    let long = walked_long c.args.nodes.now c.requires c.push-in-Some.new.self.items (reverse c.push_all.new.stack.items) (after c) in
    omega (arith, long, ap length c.in_ok-push-2.ensures.items, length-append c.loop-key.order.items (c.in-Some.key ∷ []))

pub loop-key-preserved : goal.loop-key-preserved
loop-key-preserved c = after c

pub returns : goal.returns
returns c =
    let nodes = c.args.nodes.now in
    let empty : c.loop-key.stack.items ≡ [] = nil_from_length c.loop-key.stack.items (omega (arith, c.in_default.ensures.cases.0, c.loop-key.stack.ok.0)) in
    walk_ends nodes c.requires c.loop-key.order.items (subst (λ stack. Walked nodes c.loop-key.order.items (reverse stack)) empty c.loop-key.invariant)
