use Rattle.std.proofs.Common.{refl}
use Rattle.std.specs.Prelude.{Ok, Err}
use Rattle.out_stream.specs.declared.stream.Undelivered.TheVariants.{Memory}
use Rattle.item_fold.proofs.Delivering.{delivered_next, cut_next}
use Rattle.item_fold.proofs.delivery.deliver_file.Goals as goal

pub returns-in-Err-clause-delivers : goal.returns-in-Err-clause-delivers
returns-in-Err-clause-delivers g c files before d =
    cut_next files (record { session = c.args.session.0; text = c.args.file.now }) c.in-Err.fault c.args.notes.now before
    (g.S.OutputStream.parts c.args.stream.now) (g.S.OutputStream.parts c.deliver_part.new.self) c.in-Err.ensures.err d

pub returns-in-Ok-clause-delivers : goal.returns-in-Ok-clause-delivers
returns-in-Ok-clause-delivers g c files before d =
    delivered_next files (record { session = c.args.session.0; text = c.args.file.now }) (Ok tt) c.args.notes.now c.push.new.self before
    (g.S.OutputStream.parts c.args.stream.now) (g.S.OutputStream.parts c.deliver_part.new.self) c.in_default.ensures.ok (λ room. c.in-Ok.ensures.ok) d

pub returns-in-Err-push-clause-delivers : goal.returns-in-Err-push-clause-delivers
returns-in-Err-push-clause-delivers g c files before d =
    delivered_next files (record { session = c.args.session.0; text = c.args.file.now }) (Err Memory) c.args.notes.now c.push.new.self before
    (g.S.OutputStream.parts c.args.stream.now) (g.S.OutputStream.parts c.deliver_part.new.self) c.in_default.ensures.ok (λ room. absurd (room refl)) d
