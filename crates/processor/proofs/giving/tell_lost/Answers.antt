use Rattle.std.proofs.Common.{◌≡◌, true, false, sym, ap, ◌∙◌}
use Rattle.std.specs.Prelude.{Result, Ok, Err, OnOk, OnErr, is_err}
use Rattle.processor.proofs.Telling.{told_next}
use Rattle.processor.proofs.giving.tell_lost.Goals as goal
use Rattle.processor.proofs.giving.tell_lost.Goals.{then-is_err, else-is_err}

-- the answer so far after an error, and after none
after_error : {A B E F : Type 0} (given : Result A B) (was is : Result E F) → is_err given ≡ true → is_err is ≡ true → OnOk given (is_err is ≡ is_err was)
after_error (Ok value) was is wrong now = absurd (cc wrong)
after_error (Err fault) was is wrong now = tt

error_is : {A B : Type 0} (given : Result A B) {P : Type 0} → P → OnErr given P
error_is (Ok value) holds = tt
error_is (Err fault) holds = holds

ok_is : {A B : Type 0} (given : Result A B) {P : Type 0} → P → OnOk given P
ok_is (Ok value) holds = holds
ok_is (Err fault) holds = tt

no_error : {A B : Type 0} (P : Type 0) (given : Result A B) → is_err given ≡ false → OnErr given P
no_error P (Ok value) right = tt
no_error P (Err fault) right = absurd (cc right)

pub loop-session-preserved : goal.loop-session-preserved
loop-session-preserved g c = record {
  home = c.give.ensures.home ∙ c.loop-session.invariant.home;
  given = elim c.if-is_err.branch [
    | then-is_err w ↦ told_next c.args.running.now c.loop-session.session-index _ (is_err c.loop-session.told) (is_err c.if-is_err.told) c.give.result
        (g.X.FilePorts.given c.args.ports.now) (g.X.FilePorts.given c.loop-session.ports) (g.X.FilePorts.given c.give.new.ports)
        c.loop-session-test.true c.loop-session.invariant.given c.give.ensures.ok c.give.ensures.err
        (after_error c.give.result c.loop-session.told c.if-is_err.told (sym c.is_err.ensures.value ∙ w.if-is_err.true) (ap is_err w.told-is)) (error_is c.give.result (ap is_err w.told-is))
    | else-is_err w ↦ told_next c.args.running.now c.loop-session.session-index _ (is_err c.loop-session.told) (is_err c.if-is_err.told) c.give.result
        (g.X.FilePorts.given c.args.ports.now) (g.X.FilePorts.given c.loop-session.ports) (g.X.FilePorts.given c.give.new.ports)
        c.loop-session-test.true c.loop-session.invariant.given c.give.ensures.ok c.give.ensures.err
        (ok_is c.give.result (ap is_err w.told-is)) (no_error _ c.give.result (sym c.is_err.ensures.value ∙ w.if-is_err.false))
  ];
}
