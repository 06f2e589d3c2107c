use Rattle.std.proofs.Common.{◌≡◌, length, refl, ap, sym, ◌∙◌}
use Rattle.code_event.specs.declared.event.Command.TheVariants as command
use Rattle.isolate_acts.specs.Acts.{cut_marks}
use Rattle.isolate_turns.proofs.Commanded.{cut_off_obeys, marks_are, short_stays, starts_obey}
use Rattle.isolate_turns.proofs.state.Isolate.start.Goals as goal

pub returns-in-Ok-clause-obeys : goal.returns-in-Ok-clause-obeys
returns-in-Ok-clause-obeys g c moment now calls given =
    let p = c.args.self.now.progress in
    let r = c.requires in
    starts_obey moment p c.raise_start.new.self.progress c.start.new.self calls (g.P.IsoPorts.calls c.args.ports.now) (g.P.IsoPorts.calls c.now-now.new.self) (g.P.IsoPorts.calls c.confirm.new.ports)
    _ _ c.args.options c.step.result c.now-now.result c.next_session-session.result c.confirm.result r.going r.few r.room r.exists
    (ap (λ s. s.progress) c.raise_start.ensures.same) c.step.ensures.value c.next_session-session.ensures.value c.start.ensures.started given c.now-now.ensures.calls c.confirm.ensures.calls
    (c.in-Ok.ensures.ok moment (now.at r.going))

pub returns-in-Err-clause-obeys : goal.returns-in-Err-clause-obeys
returns-in-Err-clause-obeys g c moment now calls given =
    let p = c.args.self.now.progress in
    let r = c.requires in
    let e = c.end_short.ensures in
    let many = marks_are p c.args.options c.in-Err.is_marked c.now-now.result ∙ sym c.from.ensures in
    cut_off_obeys moment p c.raise_start.new.self.progress c.end_short.new.self.progress calls (g.P.IsoPorts.calls c.args.ports.now) (g.P.IsoPorts.calls c.now-now.new.self)
    (g.P.IsoPorts.calls c.end_short.new.ports) (g.P.IsoPorts.calls c.answer.new.ports) _ _ _ c.args.options.port (command.Start c.args.options) c.in-Err.is_marked c.step.result c.now-now.result c.from.result
    c.answer.result r.going (refl, r.few) r.room r.exists (ap (λ s. s.progress) c.raise_start.ensures.same) c.step.ensures.value many e.progress given c.now-now.ensures.calls e.calls c.answer.ensures.calls
    c.in-Err.ensures.err e.more

pub returns-in-Err-clause-stays : goal.returns-in-Err-clause-stays
returns-in-Err-clause-stays g c =
    let p = c.args.self.now.progress in
    let marks = cut_marks p (command.Start c.args.options) c.in-Err.is_marked c.now-now.result in
    let many : length marks ≡ c.from.result = marks_are p c.args.options c.in-Err.is_marked c.now-now.result ∙ sym c.from.ensures in
    short_stays p c.raise_start.new.self.progress c.end_short.new.self.progress marks c.now-now.result (ap (λ s. s.progress) c.raise_start.ensures.same) (c.end_short.ensures.progress marks many) c.end_short.ensures.adds
