use Rattle.std.proofs.Common.{◌≡◌, ◌∙◌, List, ap, map, subst, sym, arith, refl}
use Rattle.std.specs.Prelude.{Bool, None, Some}
use Rattle.guest_program.specs.declared.instr.Func.{Func}
use Rattle.run_schedule.specs.ScheduleParts.{ScheduleParts}
use Rattle.run_schedule.specs.declared.schedule.ScheduleEntry.{ScheduleEntry}
use Rattle.isolate_acts.specs.Progress.{Progress}
use Rattle.isolate_ends.specs.Runs.{Answers}
use Rattle.isolate_ends.specs.declared.turn.IsoTurn.{IsoTurn}
use Rattle.port_calls.specs.PortCalls.{call_of}
use Rattle.schedule_ports.proofs.Numbers.{numbers_tell_apart}
use Rattle.schedule_ports.specs.ScheduleCalls.{AreBySchedule, is_dropped_at, left_of, left_on}
use Rattle.one_thread.specs.UnderWay.{Outlet, PlainIsolate, PlainProcessor}
use Rattle.replay_run.specs.Replaying.{HasReplayed, IsReplaying}
use Rattle.replay_run.proofs.Replayed.{ended_now}
use Rattle.replay_run.proofs.Turn.{fewer_left, goes_on, next_step, set_refusing}
use Rattle.replay_run.proofs.run.turn_to_end.Goals as goal

pub loop-step-init : goal.loop-step-init
loop-step-init g c = record { going = c.requires.going; step = sym c.requires.first; same = refl; on = λ funcs before going. going }

pub turn-requires : goal.turn-requires
turn-requires g c =
    let old = c.loop-step in
    let had = c.loop-step.invariant.going in
    let set = c.refuse_samples in
    let outlet : PlainProcessor g.row.S.Denot → Outlet = λ p. record { parts = g.S.OutputStream.parts p.stream; aborts = g.S.OutputStream.aborts p.stream; faults = g.S.OutputStream.stream_faults p.stream; chunk_bytes = g.S.OutputStream.chunk_bytes p.stream } in
    let at = set_refusing outlet had.0 old.ports.schedule (left_of old.ports.schedule old.ports.place.history.items) had.1 old.thread.isolate set.new.self.isolate old.thread.processor set.new.self.processor c.drops_at.result had.2 set.ensures.isolate set.ensures.processor in
    record { under_way = (old.ports.schedule.base, had.0, at.moment, at.raised, had.1, at.way) }

pub loop-step-smaller : goal.loop-step-smaller
loop-step-smaller g c =
    let old = c.loop-step in
    let had = c.loop-step.invariant.going in
    let set = c.refuse_samples in
    let new = c.turn.new in
    let schedule = old.ports.schedule in
    let calls = map call_of old.ports.place.history.items in
    let outlet : PlainProcessor g.row.S.Denot → Outlet = λ p. record { parts = g.S.OutputStream.parts p.stream; aborts = g.S.OutputStream.aborts p.stream; faults = g.S.OutputStream.stream_faults p.stream; chunk_bytes = g.S.OutputStream.chunk_bytes p.stream } in
    let at = set_refusing outlet had.0 schedule (left_on schedule.entries calls) had.1 old.thread.isolate set.new.self.isolate old.thread.processor set.new.self.processor c.drops_at.result had.2 set.ensures.isolate set.ensures.processor in
    let turned = c.turn.ensures.turned schedule.base had.0 at.moment at.raised had.1 at.way in
    let same : new.ports.schedule ≡ schedule = numbers_tell_apart new.ports.schedule schedule c.turn.ensures.ports in
    let by = subst (λ (s : ScheduleParts). AreBySchedule s.entries (map call_of new.ports.place.history.items)) same new.ports.by_schedule in
    let progress : set.new.self.isolate.progress ≡ old.thread.isolate.progress = ap (λ (i : PlainIsolate). i.progress) set.ensures.isolate in
    let refuses = ap (λ (i : PlainIsolate). i.ends.ring.refuses) set.ensures.isolate ∙ c.drops_at.ensures ∙ (λ k. is_dropped_at ((c.loop-step.invariant.step ∙ sym (ap (λ (p : Progress). p.step) progress)) k) (left_on schedule.entries calls)) in
    let going = subst (λ (a : IsoTurn). Answers a new.self.isolate.progress.ending) c.in-Ran.is turned.answers in
    let fewer = fewer_left had.0 schedule had.1 (outlet set.new.self.processor) (outlet new.self.processor) set.new.self.isolate new.self.isolate set.new.self.processor new.self.processor calls (map call_of new.ports.place.history.items) c.turn.result by at refuses turned going in
    let budget = ap (λ (p : Progress). p.schedule.budget) progress in
    let step = ap (λ (p : Progress). p.step) progress in
    omega (arith, fewer, budget, step)

pub loop-step-preserved : goal.loop-step-preserved
loop-step-preserved g c =
    let old = c.loop-step in
    let had = c.loop-step.invariant.going in
    let set = c.refuse_samples in
    let new = c.turn.new in
    let schedule = old.ports.schedule in
    let calls = map call_of old.ports.place.history.items in
    let later = map call_of new.ports.place.history.items in
    let outlet : PlainProcessor g.row.S.Denot → Outlet = λ p. record { parts = g.S.OutputStream.parts p.stream; aborts = g.S.OutputStream.aborts p.stream; faults = g.S.OutputStream.stream_faults p.stream; chunk_bytes = g.S.OutputStream.chunk_bytes p.stream } in
    let same : new.ports.schedule ≡ schedule = numbers_tell_apart new.ports.schedule schedule c.turn.ensures.ports in
    let by = subst (λ (s : ScheduleParts). AreBySchedule s.entries later) same new.ports.by_schedule in
    let progress : set.new.self.isolate.progress ≡ old.thread.isolate.progress = ap (λ (i : PlainIsolate). i.progress) set.ensures.isolate in
    let step : set.new.self.isolate.progress.step ≡ old.thread.isolate.progress.step = ap (λ (p : Progress). p.step) progress in
    let refuses = ap (λ (i : PlainIsolate). i.ends.ring.refuses) set.ensures.isolate ∙ c.drops_at.ensures ∙ (λ k. is_dropped_at ((c.loop-step.invariant.step ∙ sym step) k) (left_on schedule.entries calls)) in
    let at : (funcs : List Func) (before : Outlet) → IsReplaying funcs schedule (left_on schedule.entries calls) before (outlet old.thread.processor) old.thread.isolate old.thread.processor
    → IsReplaying funcs schedule (left_on schedule.entries calls) before (outlet set.new.self.processor) set.new.self.isolate set.new.self.processor = λ funcs before from.
    set_refusing outlet funcs schedule (left_on schedule.entries calls) before old.thread.isolate set.new.self.isolate old.thread.processor set.new.self.processor c.drops_at.result from set.ensures.isolate set.ensures.processor in
    let next : (funcs : List Func) (before : Outlet) → IsReplaying funcs schedule (left_on schedule.entries calls) before (outlet old.thread.processor) old.thread.isolate old.thread.processor
    → IsReplaying funcs new.ports.schedule (left_of new.ports.schedule new.ports.place.history.items) before (outlet new.self.processor) new.self.isolate new.self.processor = λ funcs before from.
    let here = at funcs before from in
    let turned = c.turn.ensures.turned schedule.base funcs here.moment here.raised before here.way in
    subst (λ (s : ScheduleParts). IsReplaying funcs s (left_on s.entries later) before (outlet new.self.processor) new.self.isolate new.self.processor) (sym same)
    (goes_on funcs schedule before (outlet set.new.self.processor) (outlet new.self.processor) set.new.self.isolate new.self.isolate set.new.self.processor new.self.processor calls later c.turn.result by here refuses turned
    (subst (λ (a : IsoTurn). Answers a new.self.isolate.progress.ending) c.in-Ran.is turned.answers)) in
    let here = at had.0 had.1 had.2 in
    let turned = c.turn.ensures.turned schedule.base had.0 here.moment here.raised had.1 here.way in
    let one_more = next_step had.0 schedule had.1 (outlet set.new.self.processor) (outlet new.self.processor) set.new.self.isolate new.self.isolate set.new.self.processor new.self.processor calls later c.turn.result by here refuses turned
    (subst (λ (a : IsoTurn). Answers a new.self.isolate.progress.ending) c.in-Ran.is turned.answers) in
    let was = c.loop-step.invariant.step in
    record {
      going = (had.0, had.1, next had.0 had.1 had.2);
      step = omega (arith, one_more, step, was);
      same = same ∙ c.loop-step.invariant.same;
      on = λ funcs before from. next funcs before (c.loop-step.invariant.on funcs before from);
    }

pub returns-in-Ended : goal.returns-in-Ended
returns-in-Ended g c =
    let old = c.loop-step in
    let set = c.refuse_samples in
    let new = c.turn.new in
    let schedule = old.ports.schedule in
    let calls = map call_of old.ports.place.history.items in
    let later = map call_of new.ports.place.history.items in
    let outlet : PlainProcessor g.row.S.Denot → Outlet = λ p. record { parts = g.S.OutputStream.parts p.stream; aborts = g.S.OutputStream.aborts p.stream; faults = g.S.OutputStream.stream_faults p.stream; chunk_bytes = g.S.OutputStream.chunk_bytes p.stream } in
    let same : new.ports.schedule ≡ schedule = numbers_tell_apart new.ports.schedule schedule c.turn.ensures.ports in
    let by = subst (λ (s : ScheduleParts). AreBySchedule s.entries later) same new.ports.by_schedule in
    let progress : set.new.self.isolate.progress ≡ old.thread.isolate.progress = ap (λ (i : PlainIsolate). i.progress) set.ensures.isolate in
    let step : set.new.self.isolate.progress.step ≡ old.thread.isolate.progress.step = ap (λ (p : Progress). p.step) progress in
    let refuses = ap (λ (i : PlainIsolate). i.ends.ring.refuses) set.ensures.isolate ∙ c.drops_at.ensures ∙ (λ k. is_dropped_at ((c.loop-step.invariant.step ∙ sym step) k) (left_on schedule.entries calls)) in
    record {
      ended = λ funcs before from.
          let now = c.loop-step.invariant.on funcs before from in
          let here = set_refusing outlet funcs schedule (left_on schedule.entries calls) before old.thread.isolate set.new.self.isolate old.thread.processor set.new.self.processor c.drops_at.result now set.ensures.isolate set.ensures.processor in
          let turned = c.turn.ensures.turned schedule.base funcs here.moment here.raised before here.way in
          subst (λ (s : ScheduleParts). HasReplayed funcs s c.in-Ended.why before (outlet new.self.processor) new.self.isolate new.self.processor) c.loop-step.invariant.same
          (ended_now funcs schedule before (outlet set.new.self.processor) (outlet new.self.processor) set.new.self.isolate new.self.isolate set.new.self.processor new.self.processor calls later c.turn.result by here refuses turned c.in-Ended.why
          (subst (λ (a : IsoTurn). Answers a new.self.isolate.progress.ending) c.in-Ended.is turned.answers));
      schedule = same ∙ c.loop-step.invariant.same;
    }
