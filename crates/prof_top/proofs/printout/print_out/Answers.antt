use Rattle.prof_top.proofs.Handed.{handed_out}
use Rattle.prof_top.proofs.printout.print_out.Goals as goal

pub returns-clause-handed : goal.returns-clause-handed
returns-clause-handed g c =
    let written = c.print-written in
    let is = written.ensures in
    handed_out c.args.lines.now c.args.notes.now c.work_ending.result c.args.delivered c.args.due written.result (g.O.Sink.written c.args.out.now) (g.O.Sink.written written.new.out) (g.O.Sink.faults c.args.out.now) (g.O.Sink.faults written.new.out)
    c.work_ending.ensures (record { ok = is.ok; room = is.room; part = is.part; memory = is.memory; failed = is.failed })
