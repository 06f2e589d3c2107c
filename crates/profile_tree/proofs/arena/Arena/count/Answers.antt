use Rattle.std.proofs.Common.{◌∙◌, ap, sym}
use Rattle.std.specs.Prelude.{slice_set}
use Rattle.std.specs.Option.{option_copied_mut}
use Rattle.profile_tree.specs.Node.{counted}
use Rattle.profile_tree.specs.Arena.{nodes_in}
use Rattle.profile_tree.proofs.ArenaNodes.{written_value, shown_value, not_absent}
use Rattle.profile_tree.proofs.arena.Arena.count.Goals as goal
use Rattle.profile_tree.proofs.arena.Arena.count.Goals.{in-Some+in_ok-count, in_default}

pub returns-clause-ok : goal.returns-clause-ok
returns-clause-ok c = elim c.match-get_mut.branch [
  | in-Some+in_ok-count w ↦
      let shown = sym c.get_mut.ensures.value ∙ ap option_copied_mut w.in-Some.is in
      ap (λ inside. nodes_in inside.slab) w.self-inside-is
      ∙ written_value c.self.inside.slab c.args.self.now c.args.key w.in-Some.node.now w.count.new.self c.self.view_is c.requires shown
      ∙ ap (slice_set c.args.self.now c.args.key) (w.in_ok-count.ensures.ok
      ∙ ap (λ n. counted n c.args.line) (shown_value c.self.inside.slab c.args.self.now c.args.key w.in-Some.node.now c.self.view_is c.requires shown))
  | in_default w ↦
      absurd (not_absent c.self.inside.slab c.args.self.now c.args.key c.self.invariant c.self.view_is c.requires (sym c.get_mut.ensures.value ∙ ap option_copied_mut w.in_default.is))
]
