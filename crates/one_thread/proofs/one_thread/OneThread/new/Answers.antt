use Rattle.std.proofs.Common.{[], subst}
use Rattle.one_thread.specs.UnderWay.{HasOpened, Outlet}
use Rattle.one_thread.proofs.Opened.{alike_first, between_first, has_opened}
use Rattle.one_thread.proofs.one_thread.OneThread.new.Goals as goal

pub hand_on-requires : goal.hand_on-requires
hand_on-requires g c =
    let made = c.in_ok-processor.ensures in
    let p = c.in_ok-processor.processor in
    let before = g.S.OutputStream.parts p.stream in
    record { between = (c.args.config.base, [], c.in-Ok.ensures.opened.raised, before, between_first c.args.program c.args.config c.in-Ok.isolate p c.in-Ok.ensures.opened made.stands made.phase made.events made.vm_ticks made.ring before) }

pub returns-clause-opened : goal.returns-clause-opened
returns-clause-opened g c =
    let outlet : g.row.S.Denot → Outlet = λ s. record { parts = g.S.OutputStream.parts s; aborts = g.S.OutputStream.aborts s; faults = g.S.OutputStream.stream_faults s; chunk_bytes = g.S.OutputStream.chunk_bytes s } in
    let made = c.in_ok-processor.ensures in
    let funcs = c.args.program in
    let config = c.args.config in
    let i = c.in-Ok.isolate in
    let p = c.in_ok-processor.processor in
    let new = c.hand_on.new.self in
    let raised = c.in-Ok.ensures.opened in
    let had = c.hand_on.ensures in
    let parts = g.S.OutputStream.parts p.stream in
    subst (λ (s : g.row.S.Denot). HasOpened funcs config (outlet s) (outlet new.processor.stream) new.isolate new.processor) made.stream
    (has_opened funcs config i p raised made.stands made.phase made.events made.vm_ticks made.ring (outlet p.stream) (outlet new.processor.stream) new.processor made.delivery had.refusing had.chunk_size new.isolate had.isolate had.refuses
    (had.handed config.base [] raised.raised parts (between_first funcs config i p raised made.stands made.phase made.events made.vm_ticks made.ring parts))
    (had.alike i.progress.ending (alike_first funcs config i p raised made.stands made.phase made.events made.vm_ticks made.ring)))
