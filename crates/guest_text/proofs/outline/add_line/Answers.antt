use Rattle.std.proofs.Common.{◌≡◌, ℕ, List, [], ◌∷◌, Bor, sym}
use Rattle.std.proofs.lemmas.List.{map-append}
use Rattle.std.proofs.lemmas.Result.{on_ok_weaker}
use Rattle.guest_text.specs.OutlineDraft.{with_instr}
use Rattle.guest_text.proofs.OutlineLists.{bytes_of, func_counted, instr_counted}
use Rattle.guest_text.proofs.outline.add_line.Goals as goal

pub returns-in_ok-push-in-Some-2 : goal.returns-in_ok-push-in-Some-2
returns-in_ok-push-in-Some-2 c = λ number lines.
    rw (
      c.in_ok-push-in-Some.ensures.items,
      c.in_ok-push-in-Some-2.ensures.items,
      map-append (λ (label : Bor (List ℕ)). label.now) c.args.labels.now.items (c.in-Some.label ∷ []),
    )
    (func_counted (bytes_of c.args.labels.now.items) c.args.sizes.now.items c.in-Some.label.now (number, c.args.line.now) lines (sym c.in-Some.ensures))

pub returns-in-None : goal.returns-in-None
returns-in-None c =
    on_ok_weaker c.add_instr.result
    (λ (more : c.add_instr.new.sizes.items ≡ with_instr c.args.sizes.now.items) (number : ℕ) (lines : List (ℕ × List ℕ)).
    rw more (instr_counted (bytes_of c.args.labels.now.items) c.args.sizes.now.items (number, c.args.line.now) lines (sym c.in-None.ensures)))
    c.add_instr.ensures
