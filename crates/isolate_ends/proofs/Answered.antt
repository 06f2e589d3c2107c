-- What holds of an answer.
use Rattle.std.proofs.Common.{◌≡◌, true, false, true≢false, sym}
use Rattle.std.specs.Prelude.{OnErr, OnOk}
use Rattle.std.specs.Result.{is_err}
use Rattle.std.specs.declared.result.Result.{Result}
use Rattle.std.specs.declared.result.Result.TheVariants.{Ok, Err}

-- of an answer of success
pub of_ok : {T E P : Type 0} (r : Result T E) → is_err r ≡ false → OnOk r P → P
of_ok (Ok x) went p = p
of_ok (Err e) went p = absurd (true≢false went)

-- of an answer of failure
pub of_err : {T E P : Type 0} (r : Result T E) → is_err r ≡ true → OnErr r P → P
of_err (Ok x) failed p = absurd (true≢false (sym failed))
of_err (Err e) failed p = p
