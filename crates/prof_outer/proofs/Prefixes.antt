-- The prefix of its bytes that a failing write appends.
use Rattle.std.proofs.Common.{ℕ, ◌≡◌, List, [], ◌++◌, Some, Bool, true, false, if◌then◌else◌, refl, sym, ◌∙◌, ap, take, drop, take-append-drop, append-nil}
use Rattle.prof_outer.specs.Appends.{AppendsPart}

-- the prefix is appended, or nothing is
pub appended_prefix : (b : Bool) (old new bytes prefix : List ℕ) (n : ℕ) → prefix ≡ take n bytes → new ≡ (if b then old ++ prefix else old) → AppendsPart (Some old) (Some new) bytes
appended_prefix true old new bytes prefix n f e = (prefix, (drop n bytes, sym (ap (λ x. x ++ drop n bytes) f ∙ take-append-drop n bytes)), ap Some e)
appended_prefix false old new bytes prefix n f e = ([], (bytes, refl), ap Some (e ∙ sym (append-nil old)))
