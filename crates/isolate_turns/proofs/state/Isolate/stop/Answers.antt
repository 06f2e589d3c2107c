use Rattle.std.proofs.Common.{[], refl, sym, ◌∙◌}
use Rattle.std.specs.Prelude.{false}
use Rattle.code_event.specs.declared.event.Command.TheVariants as command
use Rattle.isolate_ends.proofs.Queued.{have_none}
use Rattle.isolate_ends.proofs.Answered.{of_err, of_ok}
use Rattle.isolate_turns.proofs.Commanded.{cut_off_obeys, event_raised, short_stays, stops_obey}
use Rattle.isolate_turns.proofs.state.Isolate.stop.Goals as goal

pub returns-then-is_err-clause-obeys : goal.returns-then-is_err-clause-obeys
returns-then-is_err-clause-obeys g c moment now calls given =
    let p = c.args.self.now.progress in
    let r = c.requires in
    let e = c.end_short.ensures in
    cut_off_obeys moment p p c.end_short.new.self.progress calls (g.P.IsoPorts.calls c.args.ports.now) (g.P.IsoPorts.calls c.now-now.new.self) (g.P.IsoPorts.calls c.end_short.new.ports)
    (g.P.IsoPorts.calls c.answer.new.ports) _ _ _ c.args.port (command.Stop c.args.number) false c.step.result c.now-now.result 0 c.answer.result r.going r.runs r.room r.exists refl c.step.ensures.value refl
    e.progress given c.now-now.ensures.calls e.calls c.answer.ensures.calls
    (have_none _ _ (of_err c.put_event.result (sym c.is_err.ensures.value ∙ c.if-is_err.true) c.put_event.ensures.err)) e.more

pub returns-then-is_err-clause-stays : goal.returns-then-is_err-clause-stays
returns-then-is_err-clause-stays g c =
    let p = c.args.self.now.progress in
    short_stays p p c.end_short.new.self.progress [] c.now-now.result refl (c.end_short.ensures.progress [] refl) c.end_short.ensures.adds

pub returns-clause-obeys : goal.returns-clause-obeys
returns-clause-obeys g c moment now calls given =
    let p = c.args.self.now.progress in
    let r = c.requires in
    stops_obey moment p c.stop.new.self calls (g.P.IsoPorts.calls c.args.ports.now) (g.P.IsoPorts.calls c.now-now.new.self) (g.P.IsoPorts.calls c.confirm.new.ports) _ _ c.args.port c.args.number
    c.step.result c.now-now.result c.confirm.result r.going r.runs r.room r.exists c.step.ensures.value c.stop.ensures.stopped given c.now-now.ensures.calls c.confirm.ensures.calls
    (event_raised _ _ c.stop_mark-mark.result _ c.stop_mark-mark.ensures.mark (of_ok c.put_event.result (sym c.is_err.ensures.value ∙ c.if-is_err.false) c.put_event.ensures.ok))
