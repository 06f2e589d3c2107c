use Rattle.std.proofs.Common.{arith, ◌∙◌, ap, sym}
use Rattle.code_event.specs.Tree.{with_paths}
use Rattle.reference_profile.proofs.Nodes.{prefixes-last, put_prefix}
use Rattle.reference_profile.proofs.tree.put_prefixes.Goals as goal

pub loop-len-init : goal.loop-len-init
loop-len-init c = c.in_ok-put_path.ensures ∙ ap (λ paths. with_paths paths c.args.set.now.items) (sym (prefixes-last c.args.path.now))

pub loop-len-preserved : goal.loop-len-preserved
loop-len-preserved c = put_prefix c.args.path.now c.args.set.now.items c.loop-len.set.items c.put_path-in-loop-len.new.set.items c.loop-len.len (omega arith) (omega arith) c.loop-len.invariant c.in_ok-put_path-2.ensures
