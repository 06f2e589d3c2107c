use Rattle.one_thread.proofs.Handed.{none_back, nothing_handed, on_passed}
use Rattle.one_thread.proofs.one_thread.OneThread.hand_on.Goals as goal

pub returns-then-has_raised-clause-handed : goal.returns-then-has_raised-clause-handed
returns-then-has_raised-clause-handed g c base raised more before between =
    let parts = g.S.OutputStream.parts in
    let i0 = c.args.self.now.isolate in
    let p0 = c.args.self.now.processor in
    let i1 = c.has_raised.new.self.isolate in
    let p1 = c.has_raised.new.self.processor in
    let had = c.has_raised.ensures in
    record {
      none_waits = none_back parts base raised more before i0 i1 p0 p1 between had.processor had.events had.vm_ticks had.samples c.pass_on.new.self.isolate c.pass_on.ensures.isolate;
      settled = c.settle_plain.ensures.settled base _ before between.legal
          (on_passed parts base raised more before i0 i1 p0 p1 between had.processor had.events had.vm_ticks had.samples c.pass_on.new.self.processor c.pass_on.ensures.processor);
    }

pub returns-else-has_raised-clause-handed : goal.returns-else-has_raised-clause-handed
returns-else-has_raised-clause-handed g c base raised more before between =
    let had = c.has_raised.ensures in
    nothing_handed g.S.OutputStream.parts base raised more before c.args.self.now.isolate c.has_raised.new.self.isolate c.args.self.now.processor c.has_raised.new.self.processor between had.processor had.events had.vm_ticks had.samples
    (had.nothing c.if-has_raised.false)
