-- Rounded intervals and their common divisors.
use Rattle.std.proofs.Common.{ℕ, ◌+◌, ◌-◌, ◌*◌, ◌<◌, ◌≤◌, ◌≡◌, ◌⊎◌, inl, inr, max, List, [], ◌∷◌, ◌++◌, length, take, get_or, arith, sym, subst}
use Rattle.std.proofs.lemmas.List.{take_more}
use Rattle.std.specs.Int.{◌∣◌, div_ceil, IsGcd}
use Rattle.std.proofs.Math.Nat.{dvd-mul_left, dvd-sub}
use Rattle.std.proofs.lemmas.Nat.Gcd.{le_of_dvd, dvd_trans}
use Rattle.std.proofs.lemmas.Grind.{div_ceil_times}
use Rattle.prof_base.specs.Interval.{rounded_of, IsRounded, DividesEach, IsSourceInterval}
use Rattle.prof_base.specs.declared.interval.TheConstants.{MAX_ROUNDED}

le_or_lt : (m n : ℕ) → (m ≤ n) ⊎ (n < m)
le_or_lt m n = grind arith

-- a multiple of the base that is less than the base above another multiple is at most that one
multiple_below : (base r n : ℕ) → base ∣ r → base ∣ n → 0 < base → r < n + base → r ≤ n
multiple_below base r n h k some near = elim (le_or_lt r n) [
  | inl le ↦ le
  | inr lt ↦ absurd (omega (arith, le_of_dvd {m = base} {n = r - n} (omega arith) (dvd-sub base {m = r} {n = n} h k)))
]

least_of : (base steps interval n : ℕ) → steps * base < interval + base → base ∣ n → interval ≤ n → base ≤ n → 0 < base → max steps 1 * base ≤ n
least_of base steps interval n near h reaches some low =
    multiple_below base (max steps 1 * base) n (dvd-mul_left base (max steps 1)) h low (grind arith)

times_more : (m n base : ℕ) → m ≤ n → m * base ≤ n * base
times_more m n base h = grind arith

rounded_is_least : (base interval : ℕ) → 1 ≤ base → IsRounded base interval (rounded_of base interval)
rounded_is_least base interval low =
    let near = div_ceil_times interval base low in
    record {
      multiple = dvd-mul_left base (max (div_ceil interval base) 1);
      long_enough = omega (arith, near.0, times_more (div_ceil interval base) (max (div_ceil interval base) 1) base (omega arith));
      not_none = omega (arith, times_more 1 (max (div_ceil interval base) 1) base (omega arith));
      least = λ n h reaches some. least_of base (div_ceil interval base) interval n near.1 h reaches some low;
    }

-- `rounded_of` gives the least multiple of the base that is at least the interval and the base
pub rounded_least : (base interval r : ℕ) → 1 ≤ base → r ≡ rounded_of base interval → IsRounded base interval r
rounded_least base interval r low e = subst (IsRounded base interval) (sym e) (rounded_is_least base interval low)

divides_all : (base d e : ℕ) (intervals : List ℕ) → d ∣ e → DividesEach base intervals e → DividesEach base intervals d
divides_all base d e [] h all = tt
divides_all base d e (i ∷ is) h all = (dvd_trans d h all.0, divides_all base d e is h all.1)

divides_one_more : (base d i : ℕ) (intervals : List ℕ) → DividesEach base intervals d → d ∣ rounded_of base i → DividesEach base (intervals ++ i ∷ []) d
divides_one_more base d i [] all h = (h, tt)
divides_one_more base d i (j ∷ js) all h = (all.0, divides_one_more base d i js all.1 h)

divided_one_more : (base d i : ℕ) (intervals : List ℕ) → DividesEach base (intervals ++ i ∷ []) d → DividesEach base intervals d × (d ∣ rounded_of base i)
divided_one_more base d i [] all = (tt, all.0)
divided_one_more base d i (j ∷ js) all = let rest = divided_one_more base d i js all.1 in ((all.0, rest.0), rest.1)

-- the source interval after one more interval
source_of_more : (base i source next : ℕ) (intervals : List ℕ) → IsSourceInterval base intervals source → IsGcd source (rounded_of base i) next → IsSourceInterval base (intervals ++ i ∷ []) next
source_of_more base i source next intervals s g = record {
  common = divides_one_more base next i intervals (divides_all base next source intervals g.0 s.common) g.1;
  greatest = λ d h. let parts = divided_one_more base d i intervals h in g.2 d (s.greatest d parts.0) parts.1;
}

-- a common divisor with a rounded interval is at most MAX_ROUNDED
pub source_stays_small : (source r next : ℕ) → IsGcd source r next → 0 < r → r ≤ MAX_ROUNDED → next ≤ MAX_ROUNDED
source_stays_small source r next g some small = omega (arith, le_of_dvd some g.1)

-- the source interval of the first i + 1 intervals, from that of the first i
pub source_of_next : (base i source r next : ℕ) (intervals : List ℕ) → i < length intervals → IsSourceInterval base (take i intervals) source → IsGcd source r next → r ≡ rounded_of base (get_or intervals i 0) → IsSourceInterval base (take (i + 1) intervals) next
source_of_next base i source r next intervals within s g e =
    let P : List ℕ → Type 0 = λ prefix. IsSourceInterval base prefix next in
    subst P (sym (take_more intervals i 0 within)) (source_of_more base (get_or intervals i 0) source next (take i intervals) s (subst (λ (x : ℕ). IsGcd source x next) e g))
