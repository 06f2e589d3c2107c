use Rattle.std.proofs.Common.{◌⊎◌, subst, sym}
use Rattle.prof_base.specs.Causes.{Rose}
use Rattle.prof_top.specs.Ending.{status_of}
use Rattle.prof_top.specs.HandedOut.{outlets}
use Rattle.prof_top.specs.Outcome.{IsWorked}
use Rattle.prof_top.specs.declared.load.Task.TheVariants as task
use Rattle.prof_top.proofs.run.run.Goals as goal

pub returns-in-Ok-run_on_clock-clause-due : goal.returns-in-Ok-run_on_clock-clause-due
returns-in-Ok-run_on_clock-clause-due g c is = c.report_run.ensures.due c.args.program c.args.options _ _ c.in-Ok-run_on_clock.ensures.ended is

pub returns-in-Ok-run_on_clock-clause-cannot_write : goal.returns-in-Ok-run_on_clock-clause-cannot_write
returns-in-Ok-run_on_clock-clause-cannot_write g c is =
    subst (λ (s : g.row.S.Denot). Rose (g.S.OutputStream.stream_faults c.args.stream) (g.S.OutputStream.stream_faults s) ⊎ (Rose (g.O.Sink.faults c.args.out.now) (g.O.Sink.faults c.report_run.new.out) ⊎ Rose (g.D.Depot.write_faults c.args.depot.now) (g.D.Depot.write_faults c.report_run.new.depot))) (sym c.report_run.ensures.stream)
    (c.report_run.ensures.cannot_write c.args.program c.args.options _ _ c.in-Ok-run_on_clock.ensures.ended is)

pub returns-in-Ok-run_on_clock-clause-aborted : goal.returns-in-Ok-run_on_clock-clause-aborted
returns-in-Ok-run_on_clock-clause-aborted g c is =
    subst (λ (s : g.row.S.Denot). Rose (g.S.OutputStream.aborts c.args.stream) (g.S.OutputStream.aborts s)) (sym c.report_run.ensures.stream)
    (c.report_run.ensures.aborted c.args.program c.args.options _ _ c.in-Ok-run_on_clock.ensures.ended is)

pub returns-in-Ok-run_on_clock-clause-worked : goal.returns-in-Ok-run_on_clock-clause-worked
returns-in-Ok-run_on_clock-clause-worked g c =
    subst
    (λ (s : g.row.S.Denot). IsWorked (task.Run c.args.program c.args.options) (status_of c.report_run.result.ending) c.report_run.result.schedules
    (outlets (g.S.OutputStream.parts c.args.stream) (g.S.OutputStream.aborts c.args.stream) (g.S.OutputStream.stream_faults c.args.stream) (g.O.Sink.written c.args.out.now) (g.O.Sink.faults c.args.out.now) (g.D.Depot.write_faults c.args.depot.now))
    (outlets (g.S.OutputStream.parts s) (g.S.OutputStream.aborts s) (g.S.OutputStream.stream_faults s) (g.O.Sink.written c.report_run.new.out) (g.O.Sink.faults c.report_run.new.out) (g.D.Depot.write_faults c.report_run.new.depot)))
    (sym c.report_run.ensures.stream) (c.report_run.ensures.worked c.args.program c.args.options _ _ c.in-Ok-run_on_clock.ensures.ended)
