-- A run by a schedule, before its first turn.
use Rattle.std.proofs.Common.{◌≡◌, List, [], refl, ap, sym, subst, ◌∙◌}
use Rattle.guest_program.specs.declared.instr.Func.{Func}
use Rattle.run_schedule.specs.ScheduleParts.{ScheduleParts}
use Rattle.isolate_acts.specs.Progress.{Progress}
use Rattle.isolate_turns.specs.declared.state.IsoConfig.{IsoConfig}
use Rattle.schedule_ports.proofs.Turned.{openings_on}
use Rattle.schedule_ports.specs.ScheduleTurns.{MayReplay}
use Rattle.one_thread.specs.UnderWay.{HasOpened, Outlet, PlainIsolate, PlainProcessor, first_progress}
use Rattle.replay_run.specs.Replaying.{IsReplaying}

-- the numbers of a schedule, with which its isolate is opened
abbrev pub config_of : ScheduleParts → IsoConfig
config_of schedule = record { base = schedule.base; ring = schedule.ring; budget = schedule.budget; limit = schedule.limit }

-- an isolate that was just opened is on the schedule, all entries of which are left
pub begun : {S : Type 0} (funcs : List Func) (schedule : ScheduleParts) (before now : Outlet) (i : PlainIsolate) (p : PlainProcessor S) → MayReplay funcs schedule
    → HasOpened funcs (config_of schedule) before now i p → IsReplaying funcs schedule schedule.entries before now i p
begun funcs schedule before now i p may opened = record {
  may = may;
  moment = opened.moment;
  raised = opened.raised;
  way = opened.way;
  on =
      openings_on funcs schedule i.progress may (ap (λ (q : Progress). q.schedule) opened.progress) (ap (λ (q : Progress). q.step) opened.progress) (ap (λ (q : Progress). q.is_sampled) opened.progress)
      (ap (λ (q : Progress). q.ending) opened.progress);
}

pub begun_step : {S : Type 0} (funcs : List Func) (schedule : ScheduleParts) (before now : Outlet) (i : PlainIsolate) (p : PlainProcessor S) → HasOpened funcs (config_of schedule) before now i p → i.progress.step ≡ 0
begun_step funcs schedule before now i p opened = ap (λ (q : Progress). q.step) opened.progress
