use Rattle.std.proofs.Common.{◌≡◌, ◌∷◌, sym, ap, ◌∙◌}
use Rattle.guest_text.specs.OutlineDraft.{functions_with}
use Rattle.guest_text.proofs.OutlineLists.{bytes_of, all_counted}
use Rattle.guest_text.proofs.outline.listed.Goals as goal

pub loop-line-preserved : goal.loop-line-preserved
loop-line-preserved c =
    let labels = bytes_of c.loop-line.labels.items in
    let sizes = c.loop-line.sizes.items in
    let next : c.loop-line.lines.lines ≡ (c.in-Some.field-0-0, c.in-Some.line.now) ∷ c.next.new.self.lines = c.in-Some.ensures.some in
    c.in_ok-add_line.ensures c.in-Some.field-0-0 c.next.new.self.lines ∙ ap (functions_with labels sizes) (sym next) ∙ c.loop-line.invariant

pub returns : goal.returns
returns c =
    let whole = rw c.in_default.ensures.none at c.loop-line.invariant in
    sym (all_counted (bytes_of c.loop-line.labels.items) c.loop-line.sizes.items) ∙ whole
