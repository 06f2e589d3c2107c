-- What holds where a call succeeds.
use Rattle.std.specs.Prelude.{Result, Ok, Err, OnOk}

pub on_ok_each : {T E X : Type 0} (P : X → Type 0) (r : Result T E) → ((x : X) → OnOk r (P x)) → OnOk r ((x : X) → P x)
on_ok_each P (Ok value) each = each
on_ok_each P (Err fault) each = tt

pub on_ok_both : {T E P Q R : Type 0} (r : Result T E) → (P → Q → R) → OnOk r P → OnOk r Q → OnOk r R
on_ok_both (Ok value) joined first second = joined first second
on_ok_both (Err fault) joined first second = tt

pub on_ok_always : {T E P : Type 0} (r : Result T E) → P → OnOk r P
on_ok_always (Ok value) holds = holds
on_ok_always (Err fault) holds = tt
