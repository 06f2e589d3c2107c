-- Which sessions an attributor runs.
use Rattle.std.proofs.Common.{◌≡◌, List}
use Rattle.code_event.specs.FileLaws.{running_after}
use Rattle.code_event.specs.Seen.{seen_items}
use Rattle.code_event.specs.declared.tick.Item.{Item}
use Rattle.session_book.proofs.OfCalls.{running_sessions_are_seen}
use Rattle.attribution.specs.Attribution.{AttributorParts, StandsFor, running_in}

pub running_is : (parts : AttributorParts) (items : List Item) → StandsFor parts items → running_in parts ≡ running_after items
unfolding StandsFor
running_is parts items stands = running_sessions_are_seen parts.book (seen_items items) stands.sessions
