-- Which sessions run.
use Rattle.std.proofs.Common.{◌≡◌, ℕ, List, ap, sym, subst, ◌∙◌}
use Rattle.std.proofs.lemmas.Bool.{and_parts, and_from, eqb-true, eq-eqb}
use Rattle.std.proofs.lemmas.List.Folds.{Any-from_list_any, list_any_at}
use Rattle.std.specs.Prelude.{Bool, true, refl, ◌↔◌, ◌==◌, IsTrue, Contains}
use Rattle.std.specs.List.{list_any}
use Rattle.prof_base.specs.declared.ids.SessionId.{SessionId}
use Rattle.run_schedule.specs.Schedule.{Running, HasSession}
use Rattle.run_schedule.specs.declared.schedule.What.TheVariants as what
use Rattle.isolate_progress.specs.Held.{is_session_of}

abbrev with_parts : ℕ → ℕ → ℕ → Running
with_parts number port interval = record { session = number; port = port; interval = interval }

is_with_parts : (port number : ℕ) (r : Running) → is_session_of port number r ≡ true → r ≡ with_parts number port r.interval
is_with_parts port number r is =
    let parts = and_parts (r.session == number) (r.port == port) is in
    ap (λ n. with_parts n r.port r.interval) (eqb-true r.session number parts.0) ∙ ap (λ n. with_parts number n r.interval) (eqb-true r.port port parts.1)

any_holds : (port : ℕ) (number : SessionId) (running : List Running) → IsTrue (list_any (is_session_of port number.0) running) → HasSession running (what.Stop port number)
any_holds port number running is =
    let found = Any-from_list_any (is_session_of port number.0) running is in
    (found.1.interval, subst (Contains running) (is_with_parts port number.0 found.1 found.4) (found.0, found.2, found.3))

holds_any : (port : ℕ) (number : SessionId) (running : List Running) → HasSession running (what.Stop port number) → IsTrue (list_any (is_session_of port number.0) running)
holds_any port number running has =
    let itself : is_session_of port number.0 (with_parts number.0 port has.0) ≡ true =
    and_from (number.0 == number.0) (port == port) (eq-eqb number.0 number.0 refl) (eq-eqb port port refl) in
    list_any_at (is_session_of port number.0) running has.1.0 (with_parts number.0 port has.0) has.1.1
    (subst (λ r. is_session_of port number.0 r ≡ true) (sym has.1.2) itself)

-- one of the sessions is this one exactly where it runs
pub any_session : (port : ℕ) (number : SessionId) (running shown : List Running) (result : Bool) → result ≡ list_any (is_session_of port number.0) shown → shown ≡ running
    → IsTrue result ↔ HasSession running (what.Stop port number)
any_session port number running shown result is same =
    let e : list_any (is_session_of port number.0) running ≡ result = sym (is ∙ ap (list_any (is_session_of port number.0)) same) in
    subst (λ b. IsTrue b ↔ HasSession running (what.Stop port number)) e (any_holds port number running, holds_any port number running)
