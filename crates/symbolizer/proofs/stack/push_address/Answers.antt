use Rattle.std.proofs.Common.{◌≡◌, ◌∙◌, ap, sym, subst, reverse}
use Rattle.std.specs.Prelude.{OnOk}
use Rattle.code_map.specs.CodeMap.{found_at}
use Rattle.symbolizer.specs.Paths.{with_frames}
use Rattle.symbolizer.proofs.Looked.{found_frames-at}
use Rattle.symbolizer.proofs.stack.push_address.Goals as goal

pub returns-in-Some-clause-paths : goal.returns-in-Some-clause-paths
returns-in-Some-clause-paths c = λ ranges of.
    subst (λ frames. OnOk c.push_found.result (c.push_found.new.paths ≡ with_frames c.args.paths.now (reverse frames)))
    (found_frames-at c.args.map.now ranges c.args.address c.in-Some.found of (sym c.in-Some.is ∙ c.find.ensures.found ranges of ∙ ap (found_at ranges) c.from.ensures))
    (c.push_found.ensures ranges (c.find.ensures.ranges ranges of))
