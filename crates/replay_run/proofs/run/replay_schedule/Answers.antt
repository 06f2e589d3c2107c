use Rattle.std.proofs.Common.{◌≡◌, List, ap, map, subst, sym}
use Rattle.run_schedule.specs.ScheduleParts.{ScheduleParts}
use Rattle.isolate_acts.specs.Calls.{Call}
use Rattle.isolate_turns.specs.declared.state.IsoConfig.{IsoConfig}
use Rattle.port_calls.specs.PortCalls.{call_of}
use Rattle.port_calls.specs.declared.calls.PortCall.{PortCall}
use Rattle.schedule_ports.specs.ScheduleCalls.{left_of, left_on}
use Rattle.one_thread.specs.UnderWay.{HasOpened, Outlet}
use Rattle.replay_run.specs.Replaying.{HasReplayed, IsReplaying}
use Rattle.replay_run.proofs.Begun.{begun, begun_step, config_of}
use Rattle.replay_run.proofs.run.replay_schedule.Goals as goal

pub turn_to_end-why-requires-clause-going : goal.turn_to_end-why-requires-clause-going
turn_to_end-why-requires-clause-going g c =
    let outlet : g.row.S.Denot → Outlet = λ s. record { parts = g.S.OutputStream.parts s; aborts = g.S.OutputStream.aborts s; faults = g.S.OutputStream.stream_faults s; chunk_bytes = g.S.OutputStream.chunk_bytes s } in
    let funcs = c.args.program in
    let schedule = c.args.schedule in
    let before = outlet c.args.stream in
    let i = c.in-Ok.thread.isolate in
    let p = c.in-Ok.thread.processor in
    let now = outlet p.stream in
    let ports = c.new-ports.result in
    let numbers : record { base = c.base.result; ring = c.ring.result; budget = c.budget.result; limit = c.limit.result } ≡ config_of schedule = λ k.
    record { base = c.base.ensures.base k; ring = c.ring.ensures.ring k; budget = c.budget.ensures.budget k; limit = c.limit.ensures.limit k } in
    let opened = subst (λ (q : IsoConfig). HasOpened funcs q before now i p) numbers c.in-Ok.ensures.opened in
    let none = ap (λ (l : List PortCall). map call_of l) c.new-ports.ensures.new in (
      funcs,
      before,
      subst (λ (s : ScheduleParts). IsReplaying funcs s (left_of s ports.place.history.items) before now i p) (sym c.new-ports.ensures.schedule)
          (subst (λ (l : List Call). IsReplaying funcs schedule (left_on schedule.entries l) before now i p) (sym none) (begun funcs schedule before now i p c.requires.may opened)),
    )

pub returns-clause-replayed : goal.returns-clause-replayed
returns-clause-replayed g c =
    let outlet : g.row.S.Denot → Outlet = λ s. record { parts = g.S.OutputStream.parts s; aborts = g.S.OutputStream.aborts s; faults = g.S.OutputStream.stream_faults s; chunk_bytes = g.S.OutputStream.chunk_bytes s } in
    let funcs = c.args.program in
    let schedule = c.args.schedule in
    let before = outlet c.args.stream in
    let i = c.in-Ok.thread.isolate in
    let p = c.in-Ok.thread.processor in
    let now = outlet p.stream in
    let ports = c.new-ports.result in
    let new = c.turn_to_end-why.new.thread in
    let numbers : record { base = c.base.result; ring = c.ring.result; budget = c.budget.result; limit = c.limit.result } ≡ config_of schedule = λ k.
    record { base = c.base.ensures.base k; ring = c.ring.ensures.ring k; budget = c.budget.ensures.budget k; limit = c.limit.ensures.limit k } in
    let opened = subst (λ (q : IsoConfig). HasOpened funcs q before now i p) numbers c.in-Ok.ensures.opened in
    let none = ap (λ (l : List PortCall). map call_of l) c.new-ports.ensures.new in
    subst (λ (s : ScheduleParts). HasReplayed funcs s c.turn_to_end-why.result before (outlet new.processor.stream) new.isolate new.processor) c.new-ports.ensures.schedule
    (c.turn_to_end-why.ensures.ended funcs before
    (subst (λ (s : ScheduleParts). IsReplaying funcs s (left_of s ports.place.history.items) before now i p) (sym c.new-ports.ensures.schedule)
    (subst (λ (l : List Call). IsReplaying funcs schedule (left_on schedule.entries l) before now i p) (sym none) (begun funcs schedule before now i p c.requires.may opened))))
