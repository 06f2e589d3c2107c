-- The counts of hits by line, as a search for a line's place puts them.
use Rattle.std.proofs.Common.{◌≡◌, ◌≢◌, ℕ, zero, suc, ◌+◌, ◌<◌, ◌≤◌, List, [], ◌∷◌, ◌++◌, length, get_or, set, true, false, Less, Equal, Greater, refl, sym, ap, ◌∙◌, arith}
use Rattle.std.specs.Prelude.{nat_le, position, Some, None}
use Rattle.std.specs.List.{insert}
use Rattle.std.specs.Cmp.{nat_cmp_is}
use Rattle.std.proofs.lemmas.Bool.Decides.{nat_tests}
use Rattle.std.proofs.lemmas.List.Quantifiers.{position-Some}
use Rattle.prof_base.proofs.Ordered.{position-None}
use Rattle.code_event.specs.declared.profile.LineTicks.{LineTicks}
use Rattle.profile_tree.specs.Node.{put_before, put_line}

later_line : (line : ℕ) (first : LineTicks) (rest : List LineTicks) → nat_le line first.line ≡ false → put_line line (first ∷ rest) ≡ first ∷ put_line line rest
later_line line first rest e =
    let low : first.line < line = grind (arith, nat_tests, e) in
    ap (λ r. put_before r line first rest (put_line line rest)) (sym (nat_cmp_is line first.line Greater low))

put_last : (line : ℕ) (ticks : List LineTicks) (d : LineTicks) → ((k : ℕ) → k < length ticks → nat_le line (get_or ticks k d).line ≡ false) → put_line line ticks ≡ ticks ++ record { line = line; ticks = 1 } ∷ []
put_last line [] d f = refl
put_last line (first ∷ rest) d f = later_line line first rest (f 0 (omega arith)) ∙ ap (λ l. first ∷ l) (put_last line rest d (λ k low. f (suc k) (omega arith)))

put_same : (line : ℕ) (ticks : List LineTicks) (at : ℕ) (d : LineTicks) → at < length ticks → (get_or ticks at d).line ≡ line → ((k : ℕ) → k < at → nat_le line (get_or ticks k d).line ≡ false)
    → put_line line ticks ≡ set ticks at (record { line = (get_or ticks at d).line; ticks = (get_or ticks at d).ticks + 1 })
put_same line [] at d within same f = absurd (omega arith)
put_same line (first ∷ rest) zero d within same f = ap (λ r. put_before r line first rest (put_line line rest)) (sym (nat_cmp_is line first.line Equal (sym same)))
put_same line (first ∷ rest) (suc at) d within same f =
    later_line line first rest (f 0 (omega arith)) ∙ ap (λ l. first ∷ l) (put_same line rest at d (omega arith) same (λ k low. f (suc k) (omega arith)))

put_inserted : (line : ℕ) (ticks : List LineTicks) (at : ℕ) (d : LineTicks) → at < length ticks → line < (get_or ticks at d).line → ((k : ℕ) → k < at → nat_le line (get_or ticks k d).line ≡ false)
    → put_line line ticks ≡ insert ticks at (record { line = line; ticks = 1 })
put_inserted line [] at d within low f = absurd (omega arith)
put_inserted line (first ∷ rest) zero d within low f = ap (λ r. put_before r line first rest (put_line line rest)) (sym (nat_cmp_is line first.line Less low))
put_inserted line (first ∷ rest) (suc at) d within low f =
    later_line line first rest (f 0 (omega arith)) ∙ ap (λ l. first ∷ l) (put_inserted line rest at d (omega arith) low (λ k less. f (suc k) (omega arith)))

pub put_line-last : (line : ℕ) (ticks : List LineTicks) (d : LineTicks) → position (λ t. nat_le line t.line) ticks ≡ None → put_line line ticks ≡ ticks ++ record { line = line; ticks = 1 } ∷ []
put_line-last line ticks d e = put_last line ticks d (position-None (λ t. nat_le line t.line) ticks d e)

pub put_line-same : (line : ℕ) (ticks : List LineTicks) (at : ℕ) (d : LineTicks) → position (λ t. nat_le line t.line) ticks ≡ Some at → (get_or ticks at d).line ≡ line
    → put_line line ticks ≡ set ticks at (record { line = (get_or ticks at d).line; ticks = (get_or ticks at d).ticks + 1 })
put_line-same line ticks at d e same =
    let found = position-Some (λ t. nat_le line t.line) ticks at d e in
    put_same line ticks at d found.0 same found.2

pub put_line-inserted : (line : ℕ) (ticks : List LineTicks) (at : ℕ) (d : LineTicks) → position (λ t. nat_le line t.line) ticks ≡ Some at → (get_or ticks at d).line ≢ line
    → put_line line ticks ≡ insert ticks at (record { line = line; ticks = 1 })
put_line-inserted line ticks at d e other =
    let found = position-Some (λ t. nat_le line t.line) ticks at d e in
    let passes : nat_le line (get_or ticks at d).line ≡ true = found.1 in
    put_inserted line ticks at d found.0 (let high : line ≤ (get_or ticks at d).line = grind (arith, nat_tests, passes) in omega (arith, other)) found.2
