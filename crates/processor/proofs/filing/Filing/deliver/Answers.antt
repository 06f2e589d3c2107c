use Rattle.std.proofs.Common.{rules, ◌≡◌, true, refl, ◌∙◌}
use Rattle.out_stream.specs.declared.stream.Undelivered.TheVariants as undelivered
use Rattle.processor.proofs.Delivered.{sent_whole, sent_cut, not_sent, memory_answer}
use Rattle.processor.specs.declared.turn.Delivery.TheVariants.{Fine, Aborted, Failed}
use Rattle.processor.proofs.filing.Filing.deliver.Goals as goal

pub returns-then-ne-clause-delivers : goal.returns-then-ne-clause-delivers
returns-then-ne-clause-delivers g c files before h =
    not_sent files _ c.args.self.now.delivery c.args.self.now.is_spent c.args.self.now.notes before (g.S.OutputStream.parts c.args.stream.now) (λ fine. search rules) h

pub returns-in-Ok-clause-delivers : goal.returns-in-Ok-clause-delivers
returns-in-Ok-clause-delivers g c files before h =
    sent_whole files (record { session = c.args.session.0; text = c.args.file.now }) c.args.self.now.delivery c.send.new.self.delivery c.args.self.now.is_spent c.send.new.self.is_spent c.args.self.now.notes c.send.new.self.notes
    before (g.S.OutputStream.parts c.args.stream.now) (g.S.OutputStream.parts c.send.new.stream) (search rules) c.send.ensures.delivery c.requires.room c.send.ensures.spent c.in-Ok.ensures.noted c.in-Ok.ensures.ok h

pub returns-in-Err-Aborted-clause-delivers : goal.returns-in-Err-Aborted-clause-delivers
returns-in-Err-Aborted-clause-delivers g c files before h =
    sent_cut files (record { session = c.args.session.0; text = c.args.file.now }) undelivered.Aborted c.args.self.now.delivery Aborted c.self-2.inside.is_spent c.args.self.now.notes c.self-2.inside.notes.items
    before (g.S.OutputStream.parts c.args.stream.now) (g.S.OutputStream.parts c.send.new.stream) (search rules) refl
    ((λ i. (c.self-2.view_is i).notes) ∙ c.in-Err-Aborted.ensures.not_noted) c.in-Err-Aborted.ensures.err h

pub returns-in-Err-Failed-clause-delivers : goal.returns-in-Err-Failed-clause-delivers
returns-in-Err-Failed-clause-delivers g c files before h =
    sent_cut files (record { session = c.args.session.0; text = c.args.file.now }) undelivered.Failed c.args.self.now.delivery Failed c.self-2.inside.is_spent c.args.self.now.notes c.self-2.inside.notes.items
    before (g.S.OutputStream.parts c.args.stream.now) (g.S.OutputStream.parts c.send.new.stream) (search rules) refl
    ((λ i. (c.self-2.view_is i).notes) ∙ c.in-Err-Failed.ensures.not_noted) c.in-Err-Failed.ensures.err h

pub returns-in-Err-Memory-clause-delivers : goal.returns-in-Err-Memory-clause-delivers
returns-in-Err-Memory-clause-delivers g c files before h =
    let fine : c.args.self.now.delivery ≡ Fine = search rules in
    sent_cut files (record { session = c.args.session.0; text = c.args.file.now }) undelivered.Memory c.args.self.now.delivery c.self-2.inside.delivery true c.args.self.now.notes c.self-2.inside.notes.items
    before (g.S.OutputStream.parts c.args.stream.now) (g.S.OutputStream.parts c.send.new.stream) fine (memory_answer c.self-2.inside.delivery ((λ i. (c.self-2.view_is i).delivery) ∙ c.send.ensures.delivery ∙ fine))
    ((λ i. (c.self-2.view_is i).notes) ∙ c.in-Err-Memory.ensures.not_noted) c.in-Err-Memory.ensures.err h
