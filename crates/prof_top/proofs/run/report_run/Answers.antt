use Rattle.std.proofs.Common.{arith, rules}
use Rattle.prof_top.specs.Ending.{status_of}
use Rattle.prof_top.proofs.Puts.{put_of_one}
use Rattle.prof_top.proofs.Runs.{due_at_end, run_due, run_worked}
use Rattle.prof_top.proofs.run.report_run.Goals as goal

pub put_and_print-ending-requires-clause-due : goal.put_and_print-ending-requires-clause-due
put_and_print-ending-requires-clause-due g c = due_at_end c.args.run.why _ c.requires.ends (λ memory. absurd (grind (arith, memory, c.eq.ensures, c.if-eq.false)))

pub put_and_print-ending-requires-clause-legal : goal.put_and_print-ending-requires-clause-legal
put_and_print-ending-requires-clause-legal g c = c.requires.legal (λ memory. absurd (grind (arith, memory, c.eq.ensures, c.if-eq.false)))

pub returns-clause-put : goal.returns-clause-put
returns-clause-put g c = put_of_one c.from_vec-2.result c.args.run.thread.isolate.progress.schedule (status_of c.put_and_print-ending.result) _ _ _ _ (search rules) c.put_and_print-ending.ensures.put

pub returns-clause-due : goal.returns-clause-due
returns-clause-due g c funcs options before now h is =
    run_due funcs options c.args.run.why before now c.args.run.thread.isolate c.args.run.thread.processor h (λ memory. absurd (grind (arith, memory, c.eq.ensures, c.if-eq.false))) c.put_and_print-ending.result (c.put_and_print-ending.ensures.due is)

pub returns-clause-worked : goal.returns-clause-worked
returns-clause-worked g c funcs options before now h =
    run_worked funcs options c.args.run.why before now c.args.run.thread.isolate c.args.run.thread.processor h (λ memory. absurd (grind (arith, memory, c.eq.ensures, c.if-eq.false))) c.from_vec-2.result (status_of c.put_and_print-ending.result) _ _ _ _ _ _
    (search rules) c.put_and_print-ending.ensures.handed
