use Rattle.std.proofs.Common.{map, string_bytes}
use Rattle.prof_top.proofs.Lines.{readable_at_last}
use Rattle.prof_top.proofs.Outcomes.{last_status, outcome_at_last}
use Rattle.prof_top.proofs.Puts.{put_at_last}
use Rattle.prof_top.proofs.call.once.Goals as goal
use Rattle.prof_top.specs.Ending.{status_of}

pub returns-clause-outcome : goal.returns-clause-outcome
returns-clause-outcome g c =
    let ran = c.load_and_work-ran in
    let last = c.report-ending in
    outcome_at_last (map string_bytes c.args.words.now) (g.D.Depot.held c.args.depot.now) (status_of ran.result.ending) (status_of last.result) ran.result.schedules _ _
    (last_status ran.result.ending last.result last.ensures.ending) ran.ensures.outcome

pub returns-clause-put : goal.returns-clause-put
returns-clause-put g c =
    let ran = c.load_and_work-ran in
    let last = c.report-ending in
    put_at_last ran.result.schedules (status_of ran.result.ending) (status_of last.result) (g.D.Depot.held c.args.depot.now) (g.D.Depot.held ran.new.depot)
    (g.D.Depot.write_faults c.args.depot.now) (g.D.Depot.write_faults ran.new.depot) (last_status ran.result.ending last.result last.ensures.ending) ran.ensures.put

pub returns-clause-readable : goal.returns-clause-readable
returns-clause-readable g c =
    let ran = c.load_and_work-ran in
    let last = c.report-ending in
    readable_at_last (map string_bytes c.args.words.now) (g.D.Depot.held c.args.depot.now) (status_of ran.result.ending) (status_of last.result)
    (last_status ran.result.ending last.result last.ensures.ending) ran.ensures.readable
