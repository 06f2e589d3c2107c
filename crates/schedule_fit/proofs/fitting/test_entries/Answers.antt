use Rattle.std.proofs.Common.{ap, drop, subst, ◌∙◌, ◌+◌}
use Rattle.guest_machine.specs.Machine.{program_of}
use Rattle.isolate.specs.Fits.{MayComeAbout}
use Rattle.schedule_fit.proofs.Numbered.{fit_more}
use Rattle.schedule_fit.proofs.Rising.{next_rise, rise_earlier}
use Rattle.schedule_fit.proofs.fitting.test_entries.Goals as goal

pub loop-entry-preserved : goal.loop-entry-preserved
loop-entry-preserved c =
    let l = c.loop-entry in
    let entry = c.entry-item.result in
    let is = c.in_ok-is_reached.ensures in
    let next = next_rise l.machine.steps c.args.entries.now l.entry-index entry c.loop-entry-test.true c.entry-item.is l.invariant.order in
    record {
      number = ap (λ n. n + 1) l.invariant.number;
      program = is.program ∙ l.invariant.program;
      runs = is.runs;
      order = rise_earlier c.is_reached.new.machine.steps entry.step (drop (l.entry-index + 1) c.args.entries.now) is.order next.1;
      fits = fit_more (program_of c.args.machine.now) c.args.entries.now l.entry-index entry c.loop-entry-test.true c.entry-item.is l.invariant.fits
          (subst (λ funcs. MayComeAbout funcs entry.step entry.what) l.invariant.program (is.fits.0 c.if-not-branch.false));
    }
