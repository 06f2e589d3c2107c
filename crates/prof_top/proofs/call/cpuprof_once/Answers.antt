use Rattle.std.proofs.Common.{inl, inr, map, string_bytes, sym, ◌∙◌}
use Rattle.isolate.specs.Fits.{Fits}
use Rattle.prof_top.proofs.Completing.{completes}
use Rattle.prof_top.proofs.Ends.{refused_so, absent_so}
use Rattle.prof_top.proofs.Outcomes.{all_legal, asks_to_run, at_most_one, each_of, none_before, one_after, outcome_with, run_or_none}
use Rattle.prof_top.proofs.Lines.{readable_at_last}
use Rattle.prof_top.proofs.Puts.{put_at_last}
use Rattle.prof_top.proofs.call.cpuprof_once.Goals as goal
use Rattle.prof_top.specs.Causes.{outside}
use Rattle.prof_top.specs.Ending.{status_of}
use Rattle.prof_top.specs.RunSchedule.{IsHead}
use Rattle.step_clock.specs.StepClock.{IsStepClock}

pub returns-clause-readable : goal.returns-clause-readable
returns-clause-readable g c =
    readable_at_last (map string_bytes c.args.words.now) (g.D.Depot.held c.args.depot.now) (status_of c.once-ran.result.ending) c.status.result (inl c.status.ensures) c.once-ran.ensures.readable

pub returns-clause-outcome : goal.returns-clause-outcome
returns-clause-outcome g c =
    outcome_with (map string_bytes c.args.words.now) (g.D.Depot.held c.args.depot.now) (status_of c.once-ran.result.ending) c.status.result c.once-ran.result.schedules _ _ c.status.ensures c.once-ran.ensures.outcome

pub returns-clause-put : goal.returns-clause-put
returns-clause-put g c =
    put_at_last c.once-ran.result.schedules (status_of c.once-ran.result.ending) c.status.result (g.D.Depot.held c.args.depot.now) (g.D.Depot.held c.once-ran.new.depot)
    (g.D.Depot.write_faults c.args.depot.now) (g.D.Depot.write_faults c.once-ran.new.depot) (inl c.status.ensures) c.once-ran.ensures.put

pub returns-clause-ran : goal.returns-clause-ran
returns-clause-ran g c asks is =
    one_after (map string_bytes c.args.words.now) (g.D.Depot.held c.args.depot.now) c.status.result c.once-ran.result.schedules _ _ (returns-clause-outcome g c) asks is

pub returns-clause-stopped : goal.returns-clause-stopped
returns-clause-stopped g c is =
    none_before (map string_bytes c.args.words.now) (g.D.Depot.held c.args.depot.now) c.status.result c.once-ran.result.schedules _ _ (returns-clause-outcome g c) is

pub returns-clause-one : goal.returns-clause-one
returns-clause-one g c =
    at_most_one (map string_bytes c.args.words.now) (g.D.Depot.held c.args.depot.now) c.once-ran.result.schedules
    (run_or_none (map string_bytes c.args.words.now) (g.D.Depot.held c.args.depot.now) c.status.result c.once-ran.result.schedules _ _ (returns-clause-outcome g c))

pub returns-clause-legal : goal.returns-clause-legal
returns-clause-legal g c =
    all_legal (map string_bytes c.args.words.now) (g.D.Depot.held c.args.depot.now) c.once-ran.result.schedules
    (run_or_none (map string_bytes c.args.words.now) (g.D.Depot.held c.args.depot.now) c.status.result c.once-ran.result.schedules _ _ (returns-clause-outcome g c))

pub returns-clause-fits : goal.returns-clause-fits
returns-clause-fits g c =
    each_of (map string_bytes c.args.words.now) (g.D.Depot.held c.args.depot.now) c.once-ran.result.schedules (λ funcs options schedule. Fits funcs schedule) (λ funcs options schedule is. is.fits)
    (run_or_none (map string_bytes c.args.words.now) (g.D.Depot.held c.args.depot.now) c.status.result c.once-ran.result.schedules _ _ (returns-clause-outcome g c))

pub returns-clause-head : goal.returns-clause-head
returns-clause-head g c =
    each_of (map string_bytes c.args.words.now) (g.D.Depot.held c.args.depot.now) c.once-ran.result.schedules (λ funcs options schedule. IsHead options schedule) (λ funcs options schedule is. is.head)
    (run_or_none (map string_bytes c.args.words.now) (g.D.Depot.held c.args.depot.now) c.status.result c.once-ran.result.schedules _ _ (returns-clause-outcome g c))

pub returns-clause-clock : goal.returns-clause-clock
returns-clause-clock g c =
    inr (each_of (map string_bytes c.args.words.now) (g.D.Depot.held c.args.depot.now) c.once-ran.result.schedules
    (λ funcs options schedule. IsStepClock funcs options.every options.budget options.entries schedule.entries) (λ funcs options schedule is. is.clock)
    (run_or_none (map string_bytes c.args.words.now) (g.D.Depot.held c.args.depot.now) c.status.result c.once-ran.result.schedules _ _ (returns-clause-outcome g c)))

pub returns-clause-trapped : goal.returns-clause-trapped
returns-clause-trapped g c is =
    asks_to_run (map string_bytes c.args.words.now) (g.D.Depot.held c.args.depot.now) c.status.result c.once-ran.result.schedules _ _ (returns-clause-outcome g c) (inl is)

pub returns-clause-spent : goal.returns-clause-spent
returns-clause-spent g c is =
    asks_to_run (map string_bytes c.args.words.now) (g.D.Depot.held c.args.depot.now) c.status.result c.once-ran.result.schedules _ _ (returns-clause-outcome g c) (inr (inl is))

pub returns-clause-full : goal.returns-clause-full
returns-clause-full g c is =
    asks_to_run (map string_bytes c.args.words.now) (g.D.Depot.held c.args.depot.now) c.status.result c.once-ran.result.schedules _ _ (returns-clause-outcome g c) (inr (inr is))

pub returns-clause-refused : goal.returns-clause-refused
returns-clause-refused g c kind is =
    refused_so (map string_bytes c.args.words.now) (outside (g.D.Depot.held c.args.depot.now) _ _ _ _ _ _) (outside (g.D.Depot.held c.once-ran.new.depot) _ _ _ _ _ _) c.once-ran.result.ending kind c.once-ran.ensures.ending
    (sym c.status.ensures ∙ is)

pub returns-clause-absent : goal.returns-clause-absent
returns-clause-absent g c is =
    absent_so (map string_bytes c.args.words.now) (outside (g.D.Depot.held c.args.depot.now) _ _ _ _ _ _) (outside (g.D.Depot.held c.once-ran.new.depot) _ _ _ _ _ _) c.once-ran.result.ending c.once-ran.ensures.ending
    (sym c.status.ensures ∙ is)

pub returns-clause-complete : goal.returns-clause-complete
returns-clause-complete g c files tells command all none =
    completes (map string_bytes c.args.words.now) files (outside (g.D.Depot.held c.args.depot.now) _ _ _ _ _ _) (outside (g.D.Depot.held c.once-ran.new.depot) _ _ _ _ _ _) c.once-ran.result.ending c.status.result c.once-ran.result.schedules _ _ all tells command none
    c.once-ran.ensures.ending c.status.ensures (returns-clause-outcome g c)
