use Rattle.std.proofs.Common.{◌≤◌, map, take}
use Rattle.prof_base.specs.Interval.{IsSourceInterval}
use Rattle.prof_base.specs.declared.interval.TheConstants.{MAX_ROUNDED}
use Rattle.session_book.specs.declared.session.Session.{Session}
use Rattle.session_book.proofs.book.Book.source_interval.Given as goal

abbrev pub invariant-loop-session : goal.invariant-loop-session
invariant-loop-session l = record {
  so_far : IsSourceInterval l.self.base (take l.session-index (map (λ (session : Session). session.options.interval) l.session-items)) l.source;
  small : l.source ≤ MAX_ROUNDED;
}
