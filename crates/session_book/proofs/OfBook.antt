-- What runs in a book, by its list of sessions.
use Rattle.std.proofs.Common.{◌≡◌, ℕ, ◌<◌, List, [], ◌∷◌, ◌++◌, length, map, take, refl, sym, ap, ◌∙◌, subst, arith, rules, true≢false}
use Rattle.std.specs.Prelude.{◌↔◌, Option, option_map, Bool, true, false, IsTrue, Result, Ok, Err, OnOk, OnErr}
use Rattle.std.specs.List.{AllZip, Contains, slice_get}
use Rattle.std.proofs.lemmas.List.{length-map, take-append-le, take_all}
use Rattle.std.specs.Ordering.{nat_cmp}
use Rattle.std.proofs.lemmas.Cmp.{nat_cmp_total}
use Rattle.prof_base.specs.Ordered.{insert_sorted, Rises}
use Rattle.prof_base.specs.declared.ids.SessionId.{SessionId}
use Rattle.prof_base.proofs.Ordered.{put_rises}
use Rattle.code_event.specs.Seen.{Seen, started, ticked}
use Rattle.code_event.specs.declared.event.Options.{Options}
use Rattle.code_event.specs.declared.event.TheConstants.{MAX_SESSIONS}
use Rattle.code_event.specs.declared.path.PathPair.{PathPair}
use Rattle.code_event.specs.declared.seen.ResolvedFrame.{ResolvedFrame}
use Rattle.code_event.specs.declared.tick.Tick.{Tick}
use Rattle.session_book.specs.Begun.{fresh}
use Rattle.session_book.specs.Book.{BookParts, IsBook, number_of, with_session, running, StandsFor}
use Rattle.session_book.specs.Refused.{MayStart}
use Rattle.session_book.specs.Session.{HasBegun, TakesTick, paths_over, seen_tick}
use Rattle.session_book.specs.declared.session.Session.{Session}
use Rattle.session_book.proofs.Standing.{AreApart, apart, ids_with, length_with, stands_started, stands_ticked}

pub running_is : (book : BookParts) (base : ℕ) (sessions : List Session) → record { base = base; sessions = sessions } ≡ book → map number_of sessions ≡ running book
unfolding running
running_is book base sessions is = ap (λ b. map number_of b.sessions) is

pub running_by : (base : ℕ) (sessions : List Session) → running (record { base = base; sessions = sessions }) ≡ map number_of sessions
unfolding running
running_by base sessions = refl

runs_yes : (b : Bool) {P : Type 0} → IsTrue b ↔ P → b ≡ true → P
runs_yes true iff is = iff.0 (search rules)
runs_yes false iff is = absurd (true≢false (sym is))

runs_no : (b : Bool) {P : Type 0} → IsTrue b ↔ P → b ≡ false → ¬ P
runs_no true iff is = absurd (true≢false is)
runs_no false iff is = λ p. absurd (search (rules, iff.1 p))

pub is_running : (book : BookParts) (base number : ℕ) (sessions slice : List Session) (b : Bool) → record { base = base; sessions = sessions } ≡ book → slice ≡ sessions
    → IsTrue b ↔ Contains (map number_of slice) number → b ≡ true → Contains (running book) number
is_running book base number sessions slice b is same iff true_it =
    subst (λ ids. Contains ids number) (ap (map number_of) same ∙ running_is book base sessions is) (runs_yes b iff true_it)

pub not_running : (book : BookParts) (base number : ℕ) (sessions slice : List Session) (b : Bool) → record { base = base; sessions = sessions } ≡ book → slice ≡ sessions
    → IsTrue b ↔ Contains (map number_of slice) number → b ≡ false → ¬ Contains (running book) number
not_running book base number sessions slice b is same iff false_it =
    subst (λ ids. ¬ Contains ids number) (ap (map number_of) same ∙ running_is book base sessions is) (runs_no b iff false_it)

pub count_running : (book : BookParts) (base : ℕ) (sessions : List Session) → record { base = base; sessions = sessions } ≡ book → length (running book) ≡ length sessions
count_running book base sessions is = ap length (sym (running_is book base sessions is)) ∙ length-map sessions number_of

-- where each session took the tick, the book took it
pub on_ok_ticked : {T E : Type 0} (r : Result T E) (book : BookParts) (base : ℕ) (tick : Tick) (paths : PathPair) (old new : List Session) → record { base = base; sessions = old } ≡ book
    → map number_of new ≡ map number_of old → OnOk r (AllZip (TakesTick tick paths) old new)
    → OnOk r ((seen : List Seen) (frames : List ResolvedFrame) → paths ≡ paths_over frames → StandsFor book seen
    → StandsFor (record { base = base; sessions = new }) (seen ++ ticked (seen_tick tick frames) ∷ []))
on_ok_ticked (Ok value) book base tick paths old new is ids all = λ seen frames same stands.
    stands_ticked base tick paths old new all ids seen frames same (subst (λ b. StandsFor b seen) (sym is) stands)
on_ok_ticked (Err fault) book base tick paths old new is ids all = tt

-- the slice that a vector's items were written back from
pub written_back : (n : ℕ) (new rest : List Session) → length new ≡ n → take n (new ++ rest) ≡ new
written_back n new rest same = take-append-le n new rest (omega arith) ∙ take_all n new (omega arith)

pub same_count : (old new : List Session) → map number_of new ≡ map number_of old → length new ≡ length old
same_count old new ids = sym (length-map new number_of) ∙ ap length ids ∙ length-map old number_of

pub from_ok : {T E P : Type 0} (r : Result T E) (value : T) → r ≡ Ok value → OnOk r P → P
from_ok {T} {E} {P} r value is holds = subst (λ x. OnOk x P) is holds

-- a list of sessions after one was put to it, or not
pub put_or_not : {T E : Type 0} (r : Result T E) (base : ℕ) (old new : List Session) (session : Session) → OnOk r (new ≡ with_session session old) → OnErr r (new ≡ old)
    → AreApart session.id.0 old → length old < MAX_SESSIONS → IsBook base old → IsBook base new
put_or_not (Ok value) base old new session put not_put apart few is =
    subst (IsBook base) (sym put)
    (record {
      low = is.low;
      high = is.high;
      rises = subst (Rises nat_cmp) (sym (ids_with session old apart)) (put_rises nat_cmp nat_cmp_total session.id.0 (map number_of old) is.rises);
      few = omega (arith, length_with session old);
    })
put_or_not (Err fault) base old new session put not_put apart few is = subst (IsBook base) (sym not_put) is

pub on_ok_ids : {T E : Type 0} (r : Result T E) (book : BookParts) (base : ℕ) (old new : List Session) (session : Session) → record { base = base; sessions = old } ≡ book
    → OnOk r (new ≡ with_session session old) → AreApart session.id.0 old → OnOk r (running (record { base = base; sessions = new }) ≡ insert_sorted nat_cmp session.id.0 (running book))
on_ok_ids (Ok value) book base old new session is put apart =
    running_by base new ∙ ap (map number_of) put ∙ ids_with session old apart ∙ ap (insert_sorted nat_cmp session.id.0) (running_is book base old is)
on_ok_ids (Err fault) book base old new session is put apart = tt

pub on_ok_started : {T E : Type 0} (r : Result T E) (book : BookParts) (base : ℕ) (old new : List Session) (session : Session) (id : SessionId) (options : Options) (time : ℕ)
    → record { base = base; sessions = old } ≡ book → OnOk r (new ≡ with_session session old) → AreApart id.0 old → session.id ≡ id → HasBegun base session (fresh options time)
    → OnOk r ((seen : List Seen) → StandsFor book seen → StandsFor (record { base = base; sessions = new }) (seen ++ started id options time ∷ []))
on_ok_started (Ok value) book base old new session id options time is put apart named begun = λ seen stands.
    subst (λ sessions. StandsFor (record { base = base; sessions = sessions }) (seen ++ started id options time ∷ [])) (sym put)
    (stands_started base old session id options time apart named begun seen (subst (λ b. StandsFor b seen) (sym is) stands))
on_ok_started (Err fault) book base old new session id options time is put apart named begun = tt

-- what may start is apart from those that run
pub may_start : (book : BookParts) (base number : ℕ) (sessions : List Session) → record { base = base; sessions = sessions } ≡ book → MayStart (running book) number
    → AreApart number sessions × (length sessions < MAX_SESSIONS)
may_start book base number sessions is may =
    (apart number sessions (subst (λ ids. ¬ Contains ids number) (sym (running_is book base sessions is)) may.0), omega (arith, may.1, count_running book base sessions is))

first_mapped : (sessions : List Session) → option_map number_of (slice_get sessions 0) ≡ slice_get (map number_of sessions) 0
first_mapped [] = refl
first_mapped (session ∷ sessions) = refl

pub first_is : (book : BookParts) (base : ℕ) (sessions slice : List Session) (found : Option Session) → record { base = base; sessions = sessions } ≡ book → slice ≡ sessions
    → found ≡ slice_get slice 0 → option_map number_of found ≡ slice_get (running book) 0
first_is book base sessions slice found is same here =
    ap (option_map number_of) here ∙ first_mapped slice ∙ ap (λ l. slice_get (map number_of l) 0) same ∙ ap (λ l. slice_get l 0) (running_is book base sessions is)
