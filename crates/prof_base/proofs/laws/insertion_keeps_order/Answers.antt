use Rattle.prof_base.proofs.Ordered.{has_from_contains, contains_from_has, has_put, put_keeps, put_has, put_rises}
use Rattle.std.proofs.Common.{inl, inr}
use Rattle.prof_base.specs.Ordered.{insert_sorted}
use Rattle.prof_base.proofs.laws.insertion_keeps_order.Goals as goal

pub returns : goal.returns
returns g c = record {
  rises = λ R o x xs h. put_rises R o x xs h;
  inserted = λ R exact x xs. contains_from_has (insert_sorted R x xs) x (put_has R exact x xs);
  kept = λ R x z xs h. contains_from_has (insert_sorted R x xs) z (put_keeps R x z xs (has_from_contains xs z h));
  no_other = λ R x z xs h. elim (has_put R x z xs (has_from_contains (insert_sorted R x xs) z h)) [ inl same ↦ inl same | inr old ↦ inr (contains_from_has xs z old) ];
}
