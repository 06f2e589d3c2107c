use Rattle.std.proofs.Common.{ℕ, ◌≡◌, Some, ap, sym, ◌∙◌, decimal}
use Rattle.prof_top.proofs.Numbers.{parsed_number, parsed_always, differs}
use Rattle.prof_top.proofs.words.decimal_number.Goals as goal

pub returns-in-Ok-clause-only : goal.returns-in-Ok-clause-only
returns-in-Ok-clause-only c number small spelled = ap (λ (n : ℕ). Some n) (parsed_number number c.in-Ok.number c.args.word.now small spelled c.in-Ok.ensures.value.0)

pub returns-in_default-clause-only : goal.returns-in_default-clause-only
returns-in_default-clause-only c number small spelled = let same = parsed_number number c.in-Ok.number c.args.word.now small spelled c.in-Ok.ensures.value.0 in
    let spelled_so : c.args.word.now ≡ decimal c.from.result = spelled ∙ sym (ap decimal (c.from.ensures ∙ same)) in
    absurd (differs (sym c.is_decimal.ensures ∙ c.if-is_decimal.false) spelled_so)

pub returns-in_default-2-clause-only : goal.returns-in_default-2-clause-only
returns-in_default-2-clause-only c number small spelled = absurd (parsed_always number c.args.word.now small spelled c.in_default.ensures.value.0)
