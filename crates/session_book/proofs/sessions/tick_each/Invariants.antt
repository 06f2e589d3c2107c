use Rattle.std.proofs.Common.{◌≡◌, map}
use Rattle.session_book.specs.Book.{number_of}
use Rattle.session_book.specs.Session.{TakesTick}
use Rattle.session_book.proofs.Ticking.{FirstBy}
use Rattle.session_book.proofs.sessions.tick_each.Given as goal

abbrev pub invariant-loop-session : goal.invariant-loop-session
invariant-loop-session l = record {
  ids : map number_of l.sessions ≡ map number_of l.initial.sessions;
  taken : FirstBy (TakesTick l.tick l.paths) l.session-index l.initial.sessions l.sessions;
}
