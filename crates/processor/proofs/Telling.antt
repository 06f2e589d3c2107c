-- What ports were told, one after another.
use Rattle.std.proofs.Common.{◌≡◌, ℕ, zero, suc, ◌+◌, ◌<◌, List, [], ◌∷◌, ◌++◌, length, take, get_or, Bool, true, false, refl, sym, ap, subst, ◌∙◌, arith}
use Rattle.std.proofs.Math.Seq.{take-suc}
use Rattle.std.specs.Prelude.{Option, Result, Ok, Err, OnOk, OnErr, if◌then◌else◌}
use Rattle.code_event.specs.declared.event.PortFile.TheVariants.{Lost}
use Rattle.processor.specs.Filing.{given_to, AreToldLost}
use Rattle.processor.specs.declared.ports.PortCall.{PortCall}
use Rattle.processor.specs.declared.running.SessionPort.{SessionPort}

spent_stays : (was is : Bool) → (is ≡ false → was ≡ false) → was ≡ true → is ≡ true
spent_stays was true later spent = refl
spent_stays was false later spent = absurd (cc (spent, later refl))

told_more : (running : List SessionPort) (r : SessionPort) (was is answer : Bool) (before mid now : Option (List PortCall)) → AreToldLost running was before mid
    → (is ≡ false → was ≡ false) → (answer ≡ false → is ≡ true) → now ≡ (if answer then given_to r.port (Lost r.session) mid else mid) → AreToldLost (running ++ r ∷ []) is before now
told_more [] r was is answer before mid now told later refused given =
    (answer, refused, given ∙ ap (λ (p : Option (List PortCall)). if answer then given_to r.port (Lost r.session) p else p) told)
told_more (first ∷ running) r was is answer before mid now told later refused given =
    (told.0, (λ no_answer. spent_stays was is later (told.1 no_answer)), told_more running r was is answer _ mid now told.2 later refused given)

get_same : (running : List SessionPort) (at : ℕ) (d e : SessionPort) → at < length running → get_or running at e ≡ get_or running at d
get_same [] at d e within = absurd (omega arith)
get_same (r ∷ running) zero d e within = refl
get_same (r ∷ running) (suc at) d e within = get_same running at d e (omega arith)

-- the next one was told, or refused it
pub told_next : {T E : Type 0} (running : List SessionPort) (at : ℕ) (d : SessionPort) (was is : Bool) (answer : Result T E) (before mid now : Option (List PortCall)) → at < length running
    → AreToldLost (take at running) was before mid → OnOk answer (now ≡ given_to (get_or running at d).port (Lost (get_or running at d).session) mid) → OnErr answer (now ≡ mid) → OnOk answer (is ≡ was) → OnErr answer (is ≡ true)
    → AreToldLost (take (at + 1) running) is before now
told_next running at d was is answer before mid now within told given kept same spent =
    let r : SessionPort = get_or running at d in
    let here = get_same running at d r within in
    let one_more : at + 1 ≡ suc at = omega arith in
    subst (λ (rs : List SessionPort). AreToldLost rs is before now) (sym (ap (λ n. take n running) one_more ∙ take-suc running at r within ∙ ap (λ y. take at running ++ y ∷ []) here)) (by_answer answer given kept same spent)
  where
    by_answer : {T E : Type 0} (answer : Result T E) → OnOk answer (now ≡ given_to (get_or running at d).port (Lost (get_or running at d).session) mid) → OnErr answer (now ≡ mid) → OnOk answer (is ≡ was) → OnErr answer (is ≡ true)
        → AreToldLost (take at running ++ get_or running at d ∷ []) is before now
    by_answer (Ok value) given kept same spent = told_more (take at running) (get_or running at d) was is true before mid now told (λ room. sym same ∙ room) (λ e. absurd (cc e)) given
    by_answer (Err fault) given kept same spent = told_more (take at running) (get_or running at d) was is false before mid now told (λ room. absurd (cc (room, spent))) (λ e. spent) kept

-- where memory ran out later
pub told_later : (running : List SessionPort) (was is : Bool) (before now : Option (List PortCall)) → (is ≡ false → was ≡ false) → AreToldLost running was before now → AreToldLost running is before now
told_later [] was is before now later told = told
told_later (r ∷ running) was is before now later told = (told.0, (λ no_answer. spent_stays was is later (told.1 no_answer)), told_later running was is _ now later told.2)
