use Rattle.std.proofs.Common.{◌≡◌, ◌∙◌, [], ◌∷◌, map, subst, arith, ℕ}
use Rattle.isolate_ends.specs.Runs.{Answers}
use Rattle.isolate_ends.specs.declared.turn.IsoTurn.{IsoTurn}
use Rattle.port_calls.specs.PortCalls.{call_of}
use Rattle.clock_run.proofs.Ended.{ended_now}
use Rattle.clock_run.proofs.Turn.{fewer_left, goes_on}
use Rattle.clock_run.proofs.run.turn_to_end.Goals as goal

same_place : {m n : ℕ} → m ∷ [] ≡ n ∷ [] → m ≡ n
same_place same = cc

pub loop-why-init : goal.loop-why-init
loop-why-init g c = record { going = c.requires.going; on = λ funcs config before base going. (base, going) }

pub turn-requires : goal.turn-requires
turn-requires g c =
    let had = c.loop-why.invariant.going in
    record { under_way = (had.1.base, had.0, had.4.moment, _, had.2, had.4.way) }

pub loop-why-smaller : goal.loop-why-smaller
loop-why-smaller g c =
    let had = c.loop-why.invariant.going in
    let old = c.loop-why in
    let new = c.turn.new in
    let turned = c.turn.ensures.turned had.1.base had.0 had.4.moment _ had.2 had.4.way in
    let going = subst (λ (a : IsoTurn). Answers a new.self.isolate.progress.ending) c.in-Ran.is turned.answers in
    let fewer = fewer_left had.0 had.1 had.2 _ _ old.thread.isolate new.self.isolate old.thread.processor new.self.processor old.clock.recording new.ports.recording (map call_of old.clock.history.items) (map call_of new.ports.history.items)
    c.turn.result old.clock.whole new.ports.whole (same_place c.turn.ensures.ports) new.ports.by_clock had.4 turned going in
    omega (arith, fewer)

pub loop-why-preserved : goal.loop-why-preserved
loop-why-preserved g c =
    let had = c.loop-why.invariant.going in
    let old = c.loop-why in
    let new = c.turn.new in
    let interval = same_place c.turn.ensures.ports in
    record {
      going = (
        had.0,
        had.1,
        had.2,
        interval ∙ had.3,
        (let turned = c.turn.ensures.turned had.1.base had.0 had.4.moment _ had.2 had.4.way in
            goes_on had.0 had.1 had.2 _ _ old.thread.isolate new.self.isolate old.thread.processor new.self.processor old.clock.recording new.ports.recording (map call_of old.clock.history.items) (map call_of new.ports.history.items)
            c.turn.result old.clock.whole new.ports.whole interval new.ports.by_clock had.4 turned (subst (λ (a : IsoTurn). Answers a new.self.isolate.progress.ending) c.in-Ran.is turned.answers)),
      );
      on = λ funcs config before base from.
          let at = c.loop-why.invariant.on funcs config before base from in
          let turned = c.turn.ensures.turned config.base funcs at.1.moment _ before at.1.way in (
            interval ∙ at.0,
            goes_on funcs config before _ _ old.thread.isolate new.self.isolate old.thread.processor new.self.processor old.clock.recording new.ports.recording (map call_of old.clock.history.items) (map call_of new.ports.history.items)
                c.turn.result old.clock.whole new.ports.whole interval new.ports.by_clock at.1 turned (subst (λ (a : IsoTurn). Answers a new.self.isolate.progress.ending) c.in-Ran.is turned.answers),
          );
    }

pub returns-in-Ended : goal.returns-in-Ended
returns-in-Ended g c =
    let old = c.loop-why in
    let new = c.turn.new in
    record {
      ended = λ funcs config before base from.
          let at = c.loop-why.invariant.on funcs config before base from in
          let turned = c.turn.ensures.turned config.base funcs at.1.moment _ before at.1.way in
          ended_now funcs config before _ _ old.thread.isolate new.self.isolate old.thread.processor new.self.processor old.clock.recording new.ports.recording (map call_of old.clock.history.items) (map call_of new.ports.history.items)
          c.turn.result old.clock.whole new.ports.whole (same_place c.turn.ensures.ports) new.ports.by_clock at.1 turned c.in-Ended.why at.0
          (subst (λ (a : IsoTurn). Answers a new.self.isolate.progress.ending) c.in-Ended.is turned.answers);
    }
