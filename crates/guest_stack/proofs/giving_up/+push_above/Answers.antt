use Rattle.std.proofs.Common.{◌≡◌, ℕ, zero, suc, refl, ◌-◌, ◌++◌, [], ◌∷◌, ap, ◌∙◌, sym, arith}
use Rattle.guest_stack.proofs.GivenUpFrames.{frames_above-more}
use Rattle.guest_stack.proofs.giving_up.+push_above.Goals as goal

predecessor : (n : ℕ) → (n ≡ 0 → ⊥) → n ≡ suc (n - 1)
predecessor zero some = absurd (some refl)
predecessor (suc n) some = omega arith

pub returns-in_ok-push-in-Some : goal.returns-in_ok-push-in-Some
returns-in_ok-push-in-Some t c =
    frames_above-more c.args.most (c.args.most - 1) c.args.layout.now c.args.unit c.in-Some.site c.args.frames.now.items c.push_above.new.frames.items c.push.new.self.items
    (predecessor c.args.most c.if-most-eq0.false) (sym c.in-Some.ensures) c.in_ok-push_above-in-Some.ensures
    (c.in_ok-push-in-Some.ensures.items ∙ ap (λ f. c.push_above.new.frames.items ++ f ∷ []) c.plain_code_frame.ensures)
