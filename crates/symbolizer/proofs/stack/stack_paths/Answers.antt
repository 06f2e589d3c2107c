use Rattle.std.proofs.Common.{◌≡◌, ◌∙◌, ap, sym, subst, reverse}
use Rattle.std.specs.Prelude.{IfOk}
use Rattle.code_event.specs.Symbolizer.{stack_frames}
use Rattle.symbolizer.specs.Paths.{with_frames, paths_of}
use Rattle.symbolizer.proofs.Frames.{or_program-none, or_program-some, paths_of-with}
use Rattle.symbolizer.proofs.stack.stack_paths.Goals as goal

pub returns-then-is_empty-clause-paths : goal.returns-then-is_empty-clause-paths
returns-then-is_empty-clause-paths c = λ ranges of.
    let frames = reverse (stack_frames ranges c.args.addresses.now) in
    let pushed : _ = c.in_ok-push_stack.ensures.paths ranges of ∙ ap (λ paths. with_frames paths frames) c.no_paths-paths.ensures in
    subst (λ fs. IfOk c.special_paths.result (λ paths. paths ≡ paths_of fs)) (sym (or_program-none c.push_stack.new.paths frames pushed (c.is_empty.ensures.0 c.if-is_empty.true))) c.special_paths.ensures

pub returns-clause-paths : goal.returns-clause-paths
returns-clause-paths c = λ ranges of.
    let frames = reverse (stack_frames ranges c.args.addresses.now) in
    let pushed : _ = c.in_ok-push_stack.ensures.paths ranges of ∙ ap (λ paths. with_frames paths frames) c.no_paths-paths.ensures in
    pushed ∙ paths_of-with frames ∙ ap paths_of (sym (or_program-some c.push_stack.new.paths frames pushed (λ none. let yes = c.if-is_empty.ensures.1 none in absurd (cc))))
