use Rattle.std.proofs.Common.{◌≡◌, ◌∙◌, ap, sym, subst, IfOk}
use Rattle.std.specs.Prelude.{None}
use Rattle.prof_base.specs.Interval.{rounded_of}
use Rattle.reference_profile.specs.Sums.{kept_by_sum}
use Rattle.reference_profile.proofs.Sums.{kept_since-sum}
use Rattle.reference_profile.proofs.subsample.kept.Goals as goal

pub returns : goal.returns
returns c =
    subst (λ ticks. IfOk c.kept_ticks.result (λ found. found ≡ ticks))
    (ap (λ ticks. kept_by_sum c.rounded.result None ticks) c.as_slice.ensures
    ∙ ap (λ rounded. kept_by_sum rounded None c.args.begun.now.ticks) c.rounded.ensures.value
    ∙ sym (kept_since-sum (rounded_of c.args.base c.args.begun.now.options.interval) None c.args.begun.now.ticks))
    c.kept_ticks.ensures
