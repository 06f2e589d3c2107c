-- A run on the step clock, before its first turn.
use Rattle.std.proofs.Common.{◌≡◌, ◌≤◌, List, [], refl, sym, subst, append-nil}
use Rattle.std.specs.Prelude.{false}
use Rattle.guest_program.specs.declared.instr.Func.{Func}
use Rattle.code_event.specs.declared.event.Options.{Options}
use Rattle.code_event.specs.declared.tick.Item.{Item}
use Rattle.raised_so_far.specs.Raised.{IsRaised}
use Rattle.isolate_acts.specs.Calls.{Call}
use Rattle.isolate_acts.specs.Progress.{Moment, Progress}
use Rattle.isolate_acts.specs.Stands.{StandsFor}
use Rattle.isolate_turns.specs.declared.state.IsoConfig.{IsoConfig}
use Rattle.step_clock.proofs.ClockTurned.{new_on_clock}
use Rattle.step_clock.specs.ClockCalls.{begun_on}
use Rattle.step_clock.specs.ClockTurns.{IsOnClock}
use Rattle.one_thread.specs.UnderWay.{HasOpened, IsUnderWay, Outlet, PlainIsolate, PlainProcessor, SameHead, first_progress}
use Rattle.clock_run.specs.Run.{IsGoing}

first_raised : (funcs : List Func) (config : IsoConfig) (moment : Moment) (raised : List Item) → StandsFor funcs moment (first_progress config) raised → IsRaised funcs config.base [] 0 raised
first_raised funcs config moment raised stands = stands.raised_is

-- an isolate that was just opened is on the clock
pub begun : {S : Type 0} (funcs : List Func) (config : IsoConfig) (r : Options) (calls : List Call) (before now : Outlet) (i : PlainIsolate) (p : PlainProcessor S) → 2 ≤ config.limit → 1 ≤ config.budget → calls ≡ []
    → HasOpened funcs config before now i p → IsGoing funcs config r (begun_on false calls) before now i p
begun funcs config r calls before now i p places steps none opened = record {
  moment = opened.moment;
  opening = opened.raised;
  more = [];
  way = subst (λ (l : List Item). IsUnderWay config.base funcs opened.moment l before now i p) (sym (append-nil opened.raised)) opened.way;
  on = subst (λ (l : List Call). IsOnClock r (begun_on false l) i.progress) (sym none)
      (subst (λ (q : Progress). IsOnClock r false q) (sym opened.progress) (new_on_clock r (first_progress config) refl refl refl refl places steps));
  opened = first_raised funcs config opened.moment opened.raised (subst (λ (q : Progress). StandsFor funcs opened.moment q opened.raised) opened.progress opened.way.kept.stands);
  none_filed = tt;
  head = subst (λ (q : Progress). SameHead (first_progress config).schedule q.schedule) (sym opened.progress) (record { base = refl; ring = refl; budget = refl; limit = refl });
  takes = opened.takes;
}
