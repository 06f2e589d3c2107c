use Rattle.std.proofs.Common.{◌∙◌, map, subst}
use Rattle.session_book.specs.Book.{IsPlaceFor, number_of}
use Rattle.session_book.proofs.Places.{put_for}
use Rattle.session_book.proofs.sessions.put_session.Goals as goal

pub returns-clause-ok : goal.returns-clause-ok
returns-clause-ok c =
    c.in_ok-insert.ensures.items
    ∙ put_for c.args.session c.args.sessions.now.items c.place_for-at.result
    (subst (λ sessions. IsPlaceFor c.args.session.id.0 (map number_of sessions) c.place_for-at.result) c.as_slice.ensures.value c.place_for-at.ensures)
