use Rattle.std.proofs.Common.{List, ap, map}
use Rattle.port_calls.specs.PortCalls.{call_of}
use Rattle.port_calls.specs.declared.calls.PortCall.{PortCall}
use Rattle.clock_run.proofs.Begun.{begun}
use Rattle.clock_run.proofs.run.run_on_clock.Goals as goal

pub returns-clause-ended : goal.returns-clause-ended
returns-clause-ended g c =
    let clock = c.new-clock.result in
    let none = ap (λ (l : List PortCall). map call_of l) c.new-clock.ensures.new in
    c.turn_to_end-why.ensures.ended c.args.program c.args.config _ c.new-clock.ensures.interval
    (begun c.args.program c.args.config clock.recording (map call_of clock.history.items) _ _ c.in_ok-thread.thread.isolate c.in_ok-thread.thread.processor c.requires.limit_low c.requires.budget_low none c.in_ok-thread.ensures.opened)
