use Rattle.std.proofs.Common.{arith}
use Rattle.prof_base.proofs.Ordered.{has_from_contains, places_number, before_less, before_within}
use Rattle.prof_base.proofs.laws.places_number_a_rising_list.Goals as goal

pub returns : goal.returns
returns g c = record {
  numbered = λ R o xs h. places_number R o xs h;
  rise = λ R o x y xs less h. omega (arith, before_less R o x y xs less (has_from_contains xs x h));
  within = λ R o x xs h. omega (arith, before_within R o x xs (has_from_contains xs x h));
}
