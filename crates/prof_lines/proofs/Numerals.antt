-- The value of digits, read from the left.
use Rattle.std.proofs.Common.{ℕ, ◌+◌, ◌-◌, ◌*◌, ◌≡◌, ◌≤◌, List, [], ◌∷◌, length, get_or, arith}
use Rattle.prof_lines.specs.Words.{value_from}

-- more digits do not make a value less
value_grows : (n : ℕ) (digits : List ℕ) → n ≤ value_from n digits
value_grows n [] = omega arith
value_grows n (b ∷ digits) = omega (arith, value_grows (10 * n + (b - 48)) digits)

-- so the value is at least that with the first digit alone
pub value_past : (n : ℕ) (digits : List ℕ) (m : ℕ) → 1 ≤ length digits → value_from n digits ≡ m → 10 * n + (get_or digits 0 0 - 48) ≤ m
value_past n [] m h e = absurd (omega arith)
value_past n (b ∷ digits) m h e = omega (arith, e, value_grows (10 * n + (b - 48)) digits)
