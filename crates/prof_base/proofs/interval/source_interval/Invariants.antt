use Rattle.std.proofs.Common.{take, ◌≤◌}
use Rattle.prof_base.specs.Interval.{IsSourceInterval}
use Rattle.prof_base.specs.declared.interval.TheConstants.{MAX_ROUNDED}
use Rattle.prof_base.proofs.interval.source_interval.Given as goal

abbrev pub invariant-loop-interval : goal.invariant-loop-interval
invariant-loop-interval l = record {
  so_far : IsSourceInterval l.base (take l.interval-index l.intervals) l.source;
  small : l.source ≤ MAX_ROUNDED;
}
