use Rattle.std.proofs.Common.{◌≡◌, ◌-◌, List, map, false}
use Rattle.guest_program.specs.declared.instr.Func.{Func}
use Rattle.isolate_turns.specs.declared.state.IsoConfig.{IsoConfig}
use Rattle.step_clock.specs.ClockCalls.{begun_on}
use Rattle.port_calls.specs.PortCalls.{call_of}
use Rattle.one_thread.specs.UnderWay.{Outlet}
use Rattle.clock_run.specs.Run.{IsGoing}
use Rattle.clock_run.proofs.run.turn_to_end.Given as goal

abbrev pub invariant-loop-why : goal.invariant-loop-why
invariant-loop-why g l = record {
  going : (funcs : List Func) × (config : IsoConfig) × (before : Outlet) × (l.clock.recording.interval ≡ config.base)
      × IsGoing funcs config l.clock.recording (begun_on false (map call_of l.clock.history.items)) before
      (record { parts = g.S.OutputStream.parts l.thread.processor.stream; aborts = g.S.OutputStream.aborts l.thread.processor.stream; faults = g.S.OutputStream.stream_faults l.thread.processor.stream; chunk_bytes = g.S.OutputStream.chunk_bytes l.thread.processor.stream })
      l.thread.isolate l.thread.processor;
  on : (funcs : List Func) (config : IsoConfig) (before : Outlet) → l.fn.clock.recording.interval ≡ config.base
      → IsGoing funcs config l.fn.clock.recording (begun_on false (map call_of l.fn.clock.history.items)) before
      (record {
        parts = g.S.OutputStream.parts l.fn.thread.processor.stream;
        aborts = g.S.OutputStream.aborts l.fn.thread.processor.stream;
        faults = g.S.OutputStream.stream_faults l.fn.thread.processor.stream;
        chunk_bytes = g.S.OutputStream.chunk_bytes l.fn.thread.processor.stream;
      })
      l.fn.thread.isolate l.fn.thread.processor
      → (l.clock.recording.interval ≡ config.base)
      × IsGoing funcs config l.clock.recording (begun_on false (map call_of l.clock.history.items)) before
      (record { parts = g.S.OutputStream.parts l.thread.processor.stream; aborts = g.S.OutputStream.aborts l.thread.processor.stream; faults = g.S.OutputStream.stream_faults l.thread.processor.stream; chunk_bytes = g.S.OutputStream.chunk_bytes l.thread.processor.stream })
      l.thread.isolate l.thread.processor;
}

abbrev pub decreases-loop-why : goal.decreases-loop-why
decreases-loop-why g l = l.thread.isolate.progress.schedule.budget - l.thread.isolate.progress.step
