use Rattle.std.proofs.Common.{ℕ, ◌+◌, ◌<◌, ◌∙◌, ap, ap₂, sym, length}
use Rattle.std.specs.Prelude.{nat_le, position, slice_set}
use Rattle.std.proofs.lemmas.List.{get_or_default}
use Rattle.std.proofs.lemmas.List.Quantifiers.{position-Some}
use Rattle.profile_tree.proofs.LineCounts.{put_line-last, put_line-same, put_line-inserted}
use Rattle.profile_tree.proofs.lines.put_line.Goals as goal

pub returns-in_ok-push-in-None-clause-ok : goal.returns-in_ok-push-in-None-clause-ok
returns-in_ok-push-in-None-clause-ok c =
    c.in_ok-push-in-None.ensures.items
    ∙ sym (put_line-last c.args.line c.args.lines.now.items (record { line = 0; ticks = 0 })
    (ap (position (λ ticks. nat_le c.args.line ticks.line)) (sym c.as_slice.ensures.value) ∙ sym c.line_place.ensures ∙ c.in-None.is))

pub returns-in_ok-lines-in-Some-clause-ok : goal.returns-in_ok-lines-in-Some-clause-ok
returns-in_ok-lines-in-Some-clause-ok c =
    let items = c.args.lines.now.items in
    let at = c.in-Some.at in
    let d = c.index.result.now in
    let found = ap (position (λ ticks. nat_le c.args.line ticks.line)) (sym c.as_slice.ensures.value) ∙ sym c.line_place.ensures ∙ c.in-Some.is in
    let within : at < length items = (position-Some (λ ticks. nat_le c.args.line ticks.line) items at d found).0 in
    ap₂ {A = ℕ} {B = ℕ} (λ line ticks. slice_set items at (record { line = line; ticks = ticks }))
    (ap (λ t. t.line) (c.index_mut.ensures.value ∙ get_or_default items at c.index_mut.result.now d within))
    (c.in_ok-lines-in-Some.ensures.counts ∙ ap (λ t. t.ticks + 1) (c.index-then-index-line.ensures ∙ get_or_default items at c.index-then-index-line.result.now d within))
    ∙ sym (put_line-same c.args.line items at d found (ap (λ t. t.line) (sym c.index.ensures) ∙ c.if-index-line.true))

pub returns-in_ok-insert-in-Some-clause-ok : goal.returns-in_ok-insert-in-Some-clause-ok
returns-in_ok-insert-in-Some-clause-ok c =
    c.in_ok-insert-in-Some.ensures.items
    ∙ sym (put_line-inserted c.args.line c.args.lines.now.items c.in-Some.at c.index.result.now
    (ap (position (λ ticks. nat_le c.args.line ticks.line)) (sym c.as_slice.ensures.value) ∙ sym c.line_place.ensures ∙ c.in-Some.is)
    (λ same. c.if-index-line.false (ap (λ t. t.line) c.index.ensures ∙ same)))
