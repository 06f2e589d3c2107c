use Rattle.std.proofs.Common.{◌∙◌, ap, sym, arith}
use Rattle.std.proofs.lemmas.Bool.Decides.{nat_tests}
use Rattle.std.proofs.lemmas.List.{get_or_default}
use Rattle.std.specs.List.{position}
use Rattle.std.specs.Ordering.{nat_cmp}
use Rattle.prof_base.specs.Ordered.{stops}
use Rattle.prof_base.proofs.Ordered.{insert_sorted-last, insert_sorted-insert, insert_sorted-same}
use Rattle.reference_profile.proofs.tree.put_number.Goals as goal

pub returns-in_ok-push-in-None : goal.returns-in_ok-push-in-None
returns-in_ok-push-in-None c =
    c.in_ok-push-in-None.ensures.items
    ∙ sym (insert_sorted-last nat_cmp c.args.number c.args.numbers.now.items 0
    (ap (λ set. position (stops nat_cmp c.args.number) set) (sym c.as_slice.ensures.value) ∙ sym c.number_place.ensures ∙ c.in-None.is))

pub returns-in_ok-insert-in-Some : goal.returns-in_ok-insert-in-Some
returns-in_ok-insert-in-Some c =
    c.in_ok-insert-in-Some.ensures.items
    ∙ sym (insert_sorted-insert nat_cmp c.args.number c.args.numbers.now.items c.in-Some.at 0
    (ap (λ set. position (stops nat_cmp c.args.number) set) (sym c.as_slice.ensures.value) ∙ sym c.number_place.ensures ∙ c.in-Some.is)
    (grind (arith, nat_tests, get_or_default, c.index.ensures, c.if-index-number.true)))

pub returns-else-index-number : goal.returns-else-index-number
returns-else-index-number c = sym (insert_sorted-same nat_cmp c.args.number c.args.numbers.now.items c.in-Some.at 0
    (ap (λ set. position (stops nat_cmp c.args.number) set) (sym c.as_slice.ensures.value) ∙ sym c.number_place.ensures ∙ c.in-Some.is)
    (grind (arith, nat_tests, get_or_default, c.index.ensures, c.if-index-number.false)))
