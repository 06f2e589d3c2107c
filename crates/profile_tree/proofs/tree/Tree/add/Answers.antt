use Rattle.std.proofs.Common.{[], ◌∷◌, ◌++◌, sym, ap, ◌∙◌, subst}
use Rattle.std.proofs.lemmas.Option.{slice_get_within}
use Rattle.code_event.specs.declared.visit.Visit.{Visit}
use Rattle.profile_tree.specs.Grown.{StandsFor, Names}
use Rattle.profile_tree.proofs.Standing.{names_at, names_kept, stands_hit, stands_unhit}
use Rattle.profile_tree.proofs.tree.Tree.add.Goals as goal

pub count-requires : goal.count-requires
count-requires c = slice_get_within c.node.new.self.paths c.in_ok-key.key c.args.path.now c.in_ok-key.ensures.named

pub returns-in_ok-count-clause-stands : goal.returns-in_ok-count-clause-stands
returns-in_ok-count-clause-stands c visits stands =
    let visit : Visit = record { path = c.args.path.now; line = c.args.leaf_line; hit = c.args.hit } in
    subst (λ tree. StandsFor tree (visits ++ visit ∷ [])) (sym c.in_ok-count.ensures.ok)
    (stands_hit c.args.self.now c.node.new.self visits visit c.in_ok-key.key stands c.in_ok-key.ensures c.if-hit.true c.in_ok-count.ensures.alone)

pub returns-in_ok-count-clause-names : goal.returns-in_ok-count-clause-names
returns-in_ok-count-clause-names c =
    subst (λ tree. Names tree (record { key = c.in_ok-key.key }) c.args.path.now) (sym c.in_ok-count.ensures.ok) (names_at _ c.in_ok-key.key c.args.path.now c.in_ok-key.ensures.named)

pub returns-in_ok-count-clause-kept : goal.returns-in_ok-count-clause-kept
returns-in_ok-count-clause-kept c =
    names_kept c.args.self.now c.count.new.self c.in_ok-key.ensures.more (ap (λ tree. tree.paths) c.in_ok-count.ensures.ok ∙ c.in_ok-key.ensures.grown.paths)

pub returns-else-hit-clause-stands : goal.returns-else-hit-clause-stands
returns-else-hit-clause-stands c visits stands =
    stands_unhit c.args.self.now c.node.new.self visits (record { path = c.args.path.now; line = c.args.leaf_line; hit = c.args.hit }) c.in_ok-key.key stands c.in_ok-key.ensures c.if-hit.false

pub returns-else-hit-clause-names : goal.returns-else-hit-clause-names
returns-else-hit-clause-names c = names_at c.node.new.self c.in_ok-key.key c.args.path.now c.in_ok-key.ensures.named

pub returns-else-hit-clause-kept : goal.returns-else-hit-clause-kept
returns-else-hit-clause-kept c = names_kept c.args.self.now c.node.new.self c.in_ok-key.ensures.more c.in_ok-key.ensures.grown.paths
