use Rattle.std.proofs.Common.{subst, sym, ◌∙◌, ℕ, List}
use Rattle.run_schedule.specs.declared.schedule.ScheduleEntry.{ScheduleEntry}
use Rattle.schedule_fit.proofs.Numbered.{never_fits}
use Rattle.schedule_fit.proofs.Rising.{legal_rise}
use Rattle.schedule_fit.specs.Unfits.{Rise}
use Rattle.schedule_fit.proofs.fitting.test_fit.Goals as goal

pub test_entries-requires-clause-order : goal.test_entries-requires-clause-order
test_entries-requires-clause-order c =
    subst (λ (n : ℕ). Rise n c.entries.result.now) (sym c.in_ok-machine.ensures.first)
    (subst (λ (es : List ScheduleEntry). Rise 0 es) (sym c.entries.ensures.entries) (legal_rise c.args.schedule.now c.requires.legal))

pub returns-clause-never : goal.returns-clause-never
returns-clause-never c =
    never_fits _ c.args.program.now c.entries.result.now c.args.schedule.now c.test_entries.result (c.in_ok-machine.ensures.program ∙ c.in_ok-copy_program.ensures) c.entries.ensures.entries c.test_entries.ensures.unfit
