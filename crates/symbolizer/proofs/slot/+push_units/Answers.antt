use Rattle.std.proofs.Common.{◌≡◌, ◌∙◌, ap, sym, arith}
use Rattle.std.proofs.lemmas.Result.{on_ok_weaker}
use Rattle.code_event.specs.Symbolizer.{unit_frame}
use Rattle.symbolizer.specs.Paths.{with_frames}
use Rattle.symbolizer.proofs.Units.{with_unit, with_units, unit_frames-none, unit_frames-zero}
use Rattle.symbolizer.proofs.slot.+push_units.Goals as goal
use Rattle.symbolizer.proofs.slot.+push_units.Goals.{then-most-gt0+in-Some+in_ok-push_units-in-Some, then-most-gt0+in-None, else-most-gt0}

pub returns : goal.returns
returns t c =
    let old = c.args.paths.now in
    let layout = c.args.layout.now in
    let most = c.args.most in
    let number = c.args.number in
    let unit : _ = unit_frame layout number c.args.line in
    on_ok_weaker c.push_unit.result
    (λ (pushed : c.push_unit.new.paths ≡ with_frames c.if-most-gt0.paths unit). elim c.if-most-gt0.branch [
      | then-most-gt0+in-Some+in_ok-push_units-in-Some w ↦
          with_units old c.if-most-gt0.paths c.push_unit.new.paths layout most number c.args.line w.in-Some.site (omega (arith, w.if-most-gt0.true)) (sym w.in-Some.ensures)
          (w.paths-is ∙ w.in_ok-push_units-in-Some.ensures) pushed
      | then-most-gt0+in-None w ↦
          with_unit old c.push_unit.new.paths layout most number c.args.line (unit_frames-none layout most number c.args.line (sym w.in-None.ensures))
          (pushed ∙ ap (λ paths. with_frames paths unit) w.paths-is)
      | else-most-gt0 w ↦
          with_unit old c.push_unit.new.paths layout most number c.args.line (unit_frames-zero layout most number c.args.line (omega (arith, w.if-most-gt0.false)))
          (pushed ∙ ap (λ paths. with_frames paths unit) w.paths-is)
    ])
    c.push_unit.ensures
