-- The running sessions after starts and stops.
use Rattle.std.proofs.Common.{◌≡◌, ℕ, List, [], ◌∷◌, ◌++◌, cond, Bool, true, false, not, ◌==◌, refl, ap}
use Rattle.std.specs.Ordering.{nat_cmp, is_lt, is_eq}
use Rattle.prof_base.specs.Ordered.{insert_sorted}
use Rattle.code_event.specs.ItemList.{without}
use Rattle.code_event.specs.declared.tick.Item.{Item}
use Rattle.code_event.specs.declared.tick.Item.TheVariants as item
use Rattle.processor.specs.Running.{by_session, sessions_of, without_session, running_on, running_with}
use Rattle.processor.specs.declared.running.SessionPort.{SessionPort}

pub sessions_put : (x : SessionPort) (ys : List SessionPort) → sessions_of (insert_sorted by_session x ys) ≡ insert_sorted nat_cmp x.session.0 (sessions_of ys)
sessions_put x [] = refl
sessions_put x (y ∷ ys) =
    let rest = sessions_put x ys in
    elim (is_lt (by_session x y)) as (λ (b : Bool). sessions_of (cond b (x ∷ y ∷ ys) (cond (is_eq (by_session x y)) (y ∷ ys) (y ∷ insert_sorted by_session x ys)))
    ≡ cond b (x.session.0 ∷ y.session.0 ∷ sessions_of ys) (cond (is_eq (by_session x y)) (y.session.0 ∷ sessions_of ys) (y.session.0 ∷ insert_sorted nat_cmp x.session.0 (sessions_of ys)))) [
      | true ↦ refl
      | false ↦ elim (is_eq (by_session x y)) as (λ (b : Bool). sessions_of (cond b (y ∷ ys) (y ∷ insert_sorted by_session x ys))
          ≡ cond b (y.session.0 ∷ sessions_of ys) (y.session.0 ∷ insert_sorted nat_cmp x.session.0 (sessions_of ys))) [
            | true ↦ refl
            | false ↦ ap (λ (ns : List ℕ). y.session.0 ∷ ns) rest
          ]
    ]

pub sessions_without : (number : ℕ) (ys : List SessionPort) → sessions_of (without_session number ys) ≡ without number (sessions_of ys)
sessions_without number [] = refl
sessions_without number (y ∷ ys) =
    elim (y.session.0 == number) as (λ (b : Bool). sessions_of (cond (not b) (y ∷ without_session number ys) (without_session number ys)) ≡ cond (not b) (y.session.0 ∷ without number (sessions_of ys)) (without number (sessions_of ys))) [
      | true ↦ sessions_without number ys
      | false ↦ ap (λ (ns : List ℕ). y.session.0 ∷ ns) (sessions_without number ys)
    ]

pub running_on-append : (items more : List Item) (running : List SessionPort) → running_on running (items ++ more) ≡ running_on (running_on running items) more
running_on-append [] more running = refl
running_on-append (item.Event e ∷ items) more running = running_on-append items more (running_with running e.event)
running_on-append (item.Tick t ∷ items) more running = running_on-append items more running
