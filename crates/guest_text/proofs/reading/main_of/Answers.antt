use Rattle.std.proofs.Common.{◌∙◌, sym, below_more}
use Rattle.std.proofs.lemmas.Slice.Eq.{bytes_eq-Decides}
use Rattle.guest_text.proofs.Mains.{label_here, none_is_main}
use Rattle.guest_text.proofs.reading.main_of.Goals as goal

pub returns-then-eq-clause-some : goal.returns-then-eq-clause-some
returns-then-eq-clause-some c =
    label_here c.args.funcs.now c.loop-number.number c.index-funcs-number.result c.loop-number-test.true c.index-funcs-number.is
    ∙ sym c.bytes.ensures.bytes ∙ (bytes_eq-Decides c.bytes.result.now c.as_slice.result.now).0 (sym c.eq.ensures ∙ c.if-eq.true) ∙ c.as_slice.ensures

pub loop-number-preserved : goal.loop-number-preserved
loop-number-preserved c =
    below_more _ _ c.loop-number.invariant
    (λ main.
    let label = label_here c.args.funcs.now c.loop-number.number c.index-funcs-number.result c.loop-number-test.true c.index-funcs-number.is in
    let same = (bytes_eq-Decides c.bytes.result.now c.as_slice.result.now).1 (c.bytes.ensures.bytes ∙ sym label ∙ main ∙ sym c.as_slice.ensures) in
    let differ = sym c.eq.ensures ∙ c.if-eq.false in
    absurd cc)

pub returns-clause-none : goal.returns-clause-none
returns-clause-none c = none_is_main c.args.funcs.now c.loop-number.number c.loop-number-test.false c.loop-number.invariant
