use Rattle.std.proofs.Common.{◌≡◌, ℕ, true, false, ◌∙◌, ap, sym, arith}
use Rattle.std.proofs.lemmas.Bool.Decides.{nat_tests}
use Rattle.std.specs.List.{position}
use Rattle.std.specs.Ordering.{nat_cmp, is_eq}
use Rattle.prof_base.specs.Ordered.{stops}
use Rattle.prof_base.proofs.Ordered.{insert_sorted-last, insert_sorted-insert, insert_sorted-same}
use Rattle.processor.specs.Running.{by_session}
use Rattle.processor.proofs.running.put.Goals as goal

not_same : (m n : ℕ) → ¬ (m ≡ n) → is_eq (nat_cmp n m) ≡ false
not_same m n apart = grind (arith, nat_tests, apart)

same : (m n : ℕ) → m ≡ n → is_eq (nat_cmp n m) ≡ true
same m n is = grind (arith, nat_tests, is)

pub returns-in_ok-push-in-None-clause-ok : goal.returns-in_ok-push-in-None-clause-ok
returns-in_ok-push-in-None-clause-ok c =
    c.in_ok-push-in-None.ensures.items
    ∙ sym (insert_sorted-last by_session c.args.running c.args.ports.now.items c.args.running
    (ap (λ set. position (stops by_session c.args.running) set) (sym c.as_slice.ensures.value) ∙ sym c.place_of.ensures ∙ c.in-None.is))

pub returns-in_ok-insert-in-Some-clause-ok : goal.returns-in_ok-insert-in-Some-clause-ok
returns-in_ok-insert-in-Some-clause-ok c =
    c.in_ok-insert-in-Some.ensures.items
    ∙ sym (insert_sorted-insert by_session c.args.running c.args.ports.now.items c.in-Some.at c.index.result.now
    (ap (λ set. position (stops by_session c.args.running) set) (sym c.as_slice.ensures.value) ∙ sym c.place_of.ensures ∙ c.in-Some.is)
    (ap (λ r. is_eq (by_session c.args.running r)) (sym c.index.ensures) ∙ not_same c.index.result.now.session.0 c.args.running.session.0 c.if-index-running.true))

pub returns-else-index-running-clause-ok : goal.returns-else-index-running-clause-ok
returns-else-index-running-clause-ok c = sym (insert_sorted-same by_session c.args.running c.args.ports.now.items c.in-Some.at c.index.result.now
    (ap (λ set. position (stops by_session c.args.running) set) (sym c.as_slice.ensures.value) ∙ sym c.place_of.ensures ∙ c.in-Some.is)
    (ap (λ r. is_eq (by_session c.args.running r)) (sym c.index.ensures) ∙ same c.index.result.now.session.0 c.args.running.session.0 c.if-index-running.false))
