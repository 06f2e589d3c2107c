use Rattle.std.proofs.Common.{sym, ap, ◌∙◌}
use Rattle.std.specs.Prelude.{◌==◌, Some}
use Rattle.std.specs.List.{position}
use Rattle.session_book.specs.declared.session.Session.{Session}
use Rattle.session_book.proofs.Places.{taken_at, not_taken}
use Rattle.session_book.proofs.sessions.take_session.Goals as goal

pub returns-in-Some-clause-taken : goal.returns-in-Some-clause-taken
returns-in-Some-clause-taken c =
    let found = sym (ap (position (λ (session : Session). session.id.0 == c.args.id.0)) c.as_slice.ensures.value) ∙ sym c.in-Some.ensures in
    ap Some c.remove.ensures.value ∙ (taken_at c.args.id.0 c.args.sessions.now.items c.in-Some.at c.remove.result found).0

pub returns-in-Some-clause-others : goal.returns-in-Some-clause-others
returns-in-Some-clause-others c =
    let found = sym (ap (position (λ (session : Session). session.id.0 == c.args.id.0)) c.as_slice.ensures.value) ∙ sym c.in-Some.ensures in
    c.remove.ensures.items ∙ (taken_at c.args.id.0 c.args.sessions.now.items c.in-Some.at c.remove.result found).1

pub returns-in-None-clause-taken : goal.returns-in-None-clause-taken
returns-in-None-clause-taken c =
    (not_taken c.args.id.0 c.args.sessions.now.items (sym (ap (position (λ (session : Session). session.id.0 == c.args.id.0)) c.as_slice.ensures.value) ∙ sym c.in-None.ensures)).0

pub returns-in-None-clause-others : goal.returns-in-None-clause-others
returns-in-None-clause-others c =
    (not_taken c.args.id.0 c.args.sessions.now.items (sym (ap (position (λ (session : Session). session.id.0 == c.args.id.0)) c.as_slice.ensures.value) ∙ sym c.in-None.ensures)).1
