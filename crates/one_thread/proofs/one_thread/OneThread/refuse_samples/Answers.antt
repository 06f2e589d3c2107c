use Rattle.std.proofs.Common.{ap, refl}
use Rattle.code_event.specs.declared.event.EventRecord.{EventRecord}
use Rattle.code_event.specs.declared.tick.Tick.{Tick}
use Rattle.pipe_core.specs.Plain.{QueueValue}
use Rattle.isolate_ends.specs.declared.ends.Ends.{Ends}
use Rattle.one_thread.specs.UnderWay.{PlainIsolate}
use Rattle.one_thread.specs.declared.ring.TurnRing.{TurnRing}
use Rattle.one_thread.proofs.Refusing.{way_refusing}
use Rattle.one_thread.proofs.one_thread.OneThread.refuse_samples.Goals as goal

pub returns-clause-way : goal.returns-clause-way
returns-clause-way g c base funcs moment raised before now way =
    let i : PlainIsolate = c.args.self.now.isolate in
    way_refusing base funcs moment raised before now i c.args.self.now.processor way _ _ c.args.refuses
    (ap (λ (e : Ends (QueueValue EventRecord) (QueueValue Tick) TurnRing). record i { ends = record e { ring = record e.ring { refuses = c.args.refuses } } }) c.ends.ensures.value) refl
