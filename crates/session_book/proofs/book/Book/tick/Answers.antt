use Rattle.std.proofs.Common.{◌≡◌, List, [], ◌∷◌, ◌++◌, length, map, drop, sym, ap, ◌∙◌, subst}
use Rattle.std.specs.Prelude.{OnOk}
use Rattle.std.specs.List.{AllZip}
use Rattle.code_event.specs.Seen.{Seen, ticked}
use Rattle.code_event.specs.declared.seen.ResolvedFrame.{ResolvedFrame}
use Rattle.session_book.specs.Book.{number_of, running, StandsFor}
use Rattle.session_book.specs.Session.{TakesTick, paths_over, seen_tick}
use Rattle.session_book.proofs.OfBook.{on_ok_ticked, written_back, same_count}
use Rattle.session_book.proofs.book.Book.tick.Goals as goal

same_ids : (c : goal.After-self-1) → map number_of c.tick_each.new.sessions ≡ map number_of c.self.inside.sessions.items
same_ids c = c.tick_each.ensures.ids ∙ ap (map number_of) c.deref_mut.ensures.value

same : (c : goal.After-self-1) → length c.tick_each.new.sessions ≡ c.self.inside.sessions.len
same c = same_count c.self.inside.sessions.items c.tick_each.new.sessions (same_ids c) ∙ sym c.self.inside.sessions.ok.0

pub returns-clause-running : goal.returns-clause-running
unfolding running
returns-clause-running c =
    ap (map number_of) (written_back c.self.inside.sessions.len c.tick_each.new.sessions (drop (length c.tick_each.new.sessions) c.self.inside.sessions.items) (same c)) ∙ same_ids c
    ∙ ap (λ b. map number_of b.sessions) c.self.view_is

pub returns-clause-stands : goal.returns-clause-stands
returns-clause-stands c =
    subst (λ sessions. OnOk c.tick_each.result ((seen : List Seen) (frames : List ResolvedFrame) → c.args.paths.now ≡ paths_over frames → StandsFor c.args.self.now seen
    → StandsFor (record { base = c.self.inside.base; sessions = sessions }) (seen ++ ticked (seen_tick c.args.tick.now frames) ∷ [])))
    (sym (written_back c.self.inside.sessions.len c.tick_each.new.sessions (drop (length c.tick_each.new.sessions) c.self.inside.sessions.items) (same c)))
    (on_ok_ticked c.tick_each.result c.args.self.now c.self.inside.base c.args.tick.now c.args.paths.now c.self.inside.sessions.items c.tick_each.new.sessions c.self.view_is (same_ids c)
    (subst (λ old. OnOk c.tick_each.result (AllZip (TakesTick c.args.tick.now c.args.paths.now) old c.tick_each.new.sessions)) c.deref_mut.ensures.value c.tick_each.ensures.taken))
