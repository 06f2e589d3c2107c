use Rattle.session_book.proofs.OfCalls.{books_stand_for_what_they_took, running_sessions_are_seen, intervals_are_seen}
use Rattle.session_book.proofs.laws.books_stand_for_what_they_took.Goals as goal

pub returns-clause-whole : goal.returns-clause-whole
returns-clause-whole c = books_stand_for_what_they_took

pub returns-clause-running : goal.returns-clause-running
returns-clause-running c = running_sessions_are_seen

pub returns-clause-intervals : goal.returns-clause-intervals
returns-clause-intervals c = intervals_are_seen
