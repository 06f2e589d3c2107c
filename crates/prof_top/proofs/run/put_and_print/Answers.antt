use Rattle.prof_top.proofs.Puts.{hands_out_after_put, text_put_as}
use Rattle.prof_top.proofs.run.put_and_print.Goals as goal

pub returns-clause-put : goal.returns-clause-put
returns-clause-put g c =
    let put = c.put_schedule-put in
    text_put_as put.result c.print_run-ending.result c.after_put.result c.schedule.result.now c.args.thread.now.isolate.progress.schedule (g.D.Depot.held c.args.depot.now) (g.D.Depot.held put.new.depot)
    (g.D.Depot.write_faults c.args.depot.now) (g.D.Depot.write_faults put.new.depot) c.after_put.ensures.is c.schedule.ensures
    (record { ok = put.ensures.put; part = put.ensures.not_put; failed = put.ensures.failed; same = put.ensures.no_write_fault })

pub returns-clause-handed : goal.returns-clause-handed
returns-clause-handed g c =
    let put = c.put_schedule-put in
    let faults = g.D.Depot.write_faults c.args.depot.now in
    let faults' = g.D.Depot.write_faults put.new.depot in
    hands_out_after_put _ _ c.print_run-ending.result c.after_put.result _ _ _ _ _ _ faults faults' put.result c.after_put.ensures.is put.ensures.failed (c.print_run-ending.ensures.handed faults faults')
