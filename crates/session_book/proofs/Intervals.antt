-- The intervals that running sessions ask for.
use Rattle.std.proofs.Common.{◌≡◌, ◌≤◌, ℕ, zero, suc, ◌<◌, List, [], ◌∷◌, length, map, take, get_or, refl, ap, ◌∙◌, subst, arith}
use Rattle.std.proofs.lemmas.List.{length-map, take_all}
use Rattle.prof_base.specs.Interval.{IsSourceInterval}
use Rattle.session_book.specs.Book.{BookParts, intervals}
use Rattle.session_book.specs.declared.session.Session.{Session}

abbrev pub asked : List Session → List ℕ
asked sessions = map (λ (session : Session). session.options.interval) sessions

pub interval_at : (sessions : List Session) (at : ℕ) (d : Session) → at < length sessions → get_or (asked sessions) at 0 ≡ (get_or sessions at d).options.interval
interval_at [] at d within = absurd (omega arith)
interval_at (session ∷ sessions) zero d within = refl
interval_at (session ∷ sessions) (suc at) d within = interval_at sessions at d (omega arith)

pub source_of_all : (book : BookParts) (base : ℕ) (sessions slice : List Session) (at source : ℕ) → record { base = base; sessions = sessions } ≡ book → slice ≡ sessions → length slice ≤ at
    → IsSourceInterval book.base (take at (asked slice)) source → IsSourceInterval book.base (intervals book) source
unfolding intervals
source_of_all book base sessions slice at source is same all so_far =
    subst (λ l. IsSourceInterval book.base l source)
    (take_all at (asked slice) (omega (arith, length-map slice (λ (session : Session). session.options.interval))) ∙ ap asked same ∙ ap (λ b. asked b.sessions) is) so_far
