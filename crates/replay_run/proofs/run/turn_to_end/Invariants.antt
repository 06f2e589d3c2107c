use Rattle.std.proofs.Common.{◌≡◌, ◌-◌, List}
use Rattle.guest_program.specs.declared.instr.Func.{Func}
use Rattle.schedule_ports.specs.ScheduleCalls.{left_of}
use Rattle.one_thread.specs.UnderWay.{Outlet}
use Rattle.replay_run.specs.Replaying.{IsReplaying}
use Rattle.replay_run.proofs.run.turn_to_end.Given as goal

abbrev pub invariant-loop-step : goal.invariant-loop-step
invariant-loop-step g l = record {
  going : (funcs : List Func) × (before : Outlet)
      × IsReplaying funcs l.ports.schedule (left_of l.ports.schedule l.ports.place.history.items) before
      (record { parts = g.S.OutputStream.parts l.thread.processor.stream; aborts = g.S.OutputStream.aborts l.thread.processor.stream; faults = g.S.OutputStream.stream_faults l.thread.processor.stream; chunk_bytes = g.S.OutputStream.chunk_bytes l.thread.processor.stream })
      l.thread.isolate l.thread.processor;
  step : l.step ≡ l.thread.isolate.progress.step;
  same : l.ports.schedule ≡ l.fn.ports.schedule;
  on : (funcs : List Func) (before : Outlet)
      → IsReplaying funcs l.fn.ports.schedule (left_of l.fn.ports.schedule l.fn.ports.place.history.items) before
      (record {
        parts = g.S.OutputStream.parts l.fn.thread.processor.stream;
        aborts = g.S.OutputStream.aborts l.fn.thread.processor.stream;
        faults = g.S.OutputStream.stream_faults l.fn.thread.processor.stream;
        chunk_bytes = g.S.OutputStream.chunk_bytes l.fn.thread.processor.stream;
      })
      l.fn.thread.isolate l.fn.thread.processor
      → IsReplaying funcs l.ports.schedule (left_of l.ports.schedule l.ports.place.history.items) before
      (record { parts = g.S.OutputStream.parts l.thread.processor.stream; aborts = g.S.OutputStream.aborts l.thread.processor.stream; faults = g.S.OutputStream.stream_faults l.thread.processor.stream; chunk_bytes = g.S.OutputStream.chunk_bytes l.thread.processor.stream })
      l.thread.isolate l.thread.processor;
}

abbrev pub decreases-loop-step : goal.decreases-loop-step
decreases-loop-step g l = l.thread.isolate.progress.schedule.budget - l.thread.isolate.progress.step
