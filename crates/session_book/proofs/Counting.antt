-- That a counter keeps the ticks at which the intervals add up.
use Rattle.std.proofs.Common.{◌≡◌, ℕ, ◌+◌, ◌-◌, ◌<◌, List, [], ◌∷◌, ◌++◌, refl, sym, ap, subst, arith}
use Rattle.std.proofs.Common.{true≢false}
use Rattle.std.specs.Prelude.{Bool, true, false, cond, ◌||◌, ◌==◌, nat_le, Option, Some, None, option_map, sum_by}
use Rattle.std.proofs.lemmas.Bool.Decides.{nat_tests}
use Rattle.std.proofs.lemmas.List.Sums.{sum_by_push}
use Rattle.code_event.specs.Subsample.{is_due}
use Rattle.code_event.specs.declared.seen.ResolvedTick.{ResolvedTick}
use Rattle.session_book.specs.Counter.{keeps, counted, since_next, IsLeft}
use Rattle.session_book.proofs.Wanted.{is_wanted}
use Rattle.session_book.specs.declared.counter.Counter.{Counter}

least : (left interval : ℕ) → left ≡ 0 → nat_le left interval ≡ true
least left interval none = grind (arith, nat_tests)

reaches : (left sum rounded interval : ℕ) → left + sum ≡ rounded → nat_le left interval ≡ nat_le rounded (sum + interval)
reaches left sum rounded interval is = grind (arith, nat_tests)

-- a tick is due where its interval is at least what is left
due_is : (counter : Counter) (since : Option (List ResolvedTick)) (interval : ℕ) → IsLeft counter since → nat_le counter.left interval ≡ is_due counter.rounded interval since
due_is counter None interval is = least counter.left interval is
due_is counter (Some since) interval is = reaches counter.left (sum_by (λ tick. tick.interval) since) counter.rounded interval is

pub keeps_wanted : (counter : Counter) (since : Option (List ResolvedTick)) (tick : ResolvedTick) → IsLeft counter since → keeps counter.left tick.interval ≡ is_wanted counter.rounded since tick
keeps_wanted counter since tick is = ap (λ due. (tick.interval == 0) || due) (due_is counter since tick.interval is)

same_rounded : (counter : Counter) (interval : ℕ) (zero due : Bool)
    → (cond zero counter (cond due (record counter { left = counter.rounded }) (record counter { left = counter.left - interval }))).rounded ≡ counter.rounded
same_rounded counter interval true due = refl
same_rounded counter interval false true = refl
same_rounded counter interval false false = refl

pub rounded_stays : (counter : Counter) (interval : ℕ) → (counted counter interval).rounded ≡ counter.rounded
rounded_stays counter interval = same_rounded counter interval (interval == 0) (nat_le counter.left interval)

above : (left interval : ℕ) → nat_le left interval ≡ false → interval < left
above left interval is = grind (arith, nat_tests)

left_by : (zero due : Bool) (counter : Counter) (since : Option (List ResolvedTick)) (tick : ResolvedTick) → nat_le counter.left tick.interval ≡ due
    → is_due counter.rounded tick.interval since ≡ due → IsLeft counter since
    → IsLeft (cond zero counter (cond due (record counter { left = counter.rounded }) (record counter { left = counter.left - tick.interval })))
    (cond zero since (cond due (Some []) (option_map (λ before. before ++ tick ∷ []) since)))
left_by true due counter since tick low is_so is = is
left_by false true counter since tick low is_so is = omega arith
left_by false false counter None tick low is_so is = absurd (true≢false is_so)
left_by false false counter (Some since) tick low is_so is =
    omega (arith, above counter.left tick.interval low, sum_by_push (λ (t : ResolvedTick). t.interval) since tick)

pub left_counted : (counter : Counter) (since : Option (List ResolvedTick)) (tick : ResolvedTick) → IsLeft counter since
    → IsLeft (counted counter tick.interval) (since_next counter.rounded since tick)
left_counted counter since tick is =
    let same = due_is counter since tick.interval is in
    subst (λ due. IsLeft (counted counter tick.interval) (cond (tick.interval == 0) since (cond due (Some []) (option_map (λ before. before ++ tick ∷ []) since)))) same
    (left_by (tick.interval == 0) (nat_le counter.left tick.interval) counter since tick refl (sym same) is)
