use Rattle.std.proofs.Common.{◌∙◌, ◌-◌, ◌+◌, [], ◌∷◌, sym, arith, length-append}
use Rattle.item_text.proofs.Addresses.{addresses_end, addresses_more, addresses_fail, addresses_full, addresses_over}
use Rattle.item_text.proofs.item_form.frames.Goals as goal

pub returns-then-is_end : goal.returns-then-is_end
returns-then-is_end c = addresses_end c.loop-done.frames c.loop-done.rest.now (255 - c.loop-done.done) (255 - (c.loop-done.done + 1)) _ (omega (arith, c.loop-done-test.true)) (sym c.is_end.ensures ∙ c.if-is_end.true) c.loop-done.invariant.so_far

pub returns-in-Err : goal.returns-in-Err
returns-in-Err c = addresses_fail c.loop-done.frames c.loop-done.rest.now (255 - c.loop-done.done) (255 - (c.loop-done.done + 1)) c.in-Err.fault _ (omega (arith, c.loop-done-test.true)) (sym c.is_end.ensures ∙ c.if-is_end.false) c.in-Err.ensures c.loop-done.invariant.so_far

pub loop-done-preserved : goal.loop-done-preserved
loop-done-preserved c =
    rw c.push.ensures
    (record {
      so_far = addresses_more c.loop-done.frames c.loop-done.rest.now c.in-Ok.after.now c.in-Ok.next (255 - c.loop-done.done) (255 - (c.loop-done.done + 1)) _ (omega (arith, c.loop-done-test.true)) (sym c.is_end.ensures ∙ c.if-is_end.false) c.in-Ok.ensures c.loop-done.invariant.so_far;
      number = omega (arith, c.loop-done.invariant.number, length-append c.loop-done.frames (c.in-Ok.next ∷ []));
    })

pub returns-in-Ok-end : goal.returns-in-Ok-end
returns-in-Ok-end c = addresses_full c.loop-done.frames c.loop-done.rest.now (255 - c.loop-done.done) _ (omega (arith, c.loop-done-test.false)) c.in-Ok-end.ensures.end c.loop-done.invariant.so_far

pub returns-in-Err-end : goal.returns-in-Err-end
returns-in-Err-end c = addresses_over c.loop-done.frames c.loop-done.rest.now (255 - c.loop-done.done) c.in-Err-end.fault _ (omega (arith, c.loop-done-test.false)) c.in-Err-end.ensures.end c.loop-done.invariant.so_far
