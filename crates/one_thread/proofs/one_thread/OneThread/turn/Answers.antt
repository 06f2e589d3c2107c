use Rattle.one_thread.specs.UnderWay.{Outlet}
use Rattle.one_thread.proofs.Turned.{alike_now, between_now, has_turned}
use Rattle.one_thread.proofs.one_thread.OneThread.turn.Goals as goal

pub hand_on-requires : goal.hand_on-requires
hand_on-requires g c =
    let had = c.requires.under_way in
    let stream = c.args.self.now.processor.stream in
    let now : Outlet = record { parts = g.S.OutputStream.parts stream; aborts = g.S.OutputStream.aborts stream; faults = g.S.OutputStream.stream_faults stream; chunk_bytes = g.S.OutputStream.chunk_bytes stream } in
    let way = had.5 in
    record {
      between = (
        had.0,
        had.3,
        _,
        had.4.parts,
        between_now had.0 had.1 had.2 had.3 had.4 now c.args.self.now.isolate c.turn-answer.new.self c.args.self.now.processor _ _ c.turn-answer.result way (c.turn-answer.ensures.goes had.2 way.now_is),
      );
    }

pub returns-clause-turned : goal.returns-clause-turned
returns-clause-turned g c base funcs moment raised before way =
    let stream = c.args.self.now.processor.stream in
    let now : Outlet = record { parts = g.S.OutputStream.parts stream; aborts = g.S.OutputStream.aborts stream; faults = g.S.OutputStream.stream_faults stream; chunk_bytes = g.S.OutputStream.chunk_bytes stream } in
    let last = c.hand_on.new.self.processor.stream in
    let later : Outlet = record { parts = g.S.OutputStream.parts last; aborts = g.S.OutputStream.aborts last; faults = g.S.OutputStream.stream_faults last; chunk_bytes = g.S.OutputStream.chunk_bytes last } in
    let i0 = c.args.self.now.isolate in
    let i1 = c.turn-answer.new.self in
    let p0 = c.args.self.now.processor in
    let answer = c.turn-answer.result in
    let went = c.turn-answer.ensures.goes moment way.now_is in
    has_turned base funcs moment raised before now i0 i1 p0 _ _ answer way went c.hand_on.new.self.isolate c.hand_on.new.self.processor later c.hand_on.ensures.isolate c.turn-answer.ensures.whole c.turn-answer.ensures.ring_home c.hand_on.ensures.refuses
    c.turn-answer.ensures.drops (c.hand_on.ensures.handed base raised _ before.parts (between_now base funcs moment raised before now i0 i1 p0 _ _ answer way went))
    (c.hand_on.ensures.alike _ (alike_now base funcs moment raised before now i0 i1 p0 _ _ answer way went c.turn-answer.ensures.going c.turn-answer.ensures.spare c.turn-answer.ensures.ring_home))
    c.hand_on.ensures.refusing c.hand_on.ensures.chunk_size
