use Rattle.std.proofs.Common.{◌≡◌, ◌∷◌, [], ◌++◌, subst, sym, refl}
use Rattle.std.specs.Prelude.{Some, Ok, Err}
use Rattle.attribution.specs.Attribution.{running_in}
use Rattle.code_event.specs.ItemFile.{item_file}
use Rattle.code_event.specs.declared.tick.Item.TheVariants as item
use Rattle.session_book.specs.Refused.{IsStopRefused}
use Rattle.out_stream.specs.declared.stream.Undelivered.TheVariants.{Memory}
use Rattle.item_fold.specs.Folding.{FoldingParts, FoldsStop}
use Rattle.item_fold.proofs.Taking.{stopped_next, never_unknown, stop_no_room}
use Rattle.item_fold.proofs.folding.Folding.end.Goals as goal

pub returns-in-Ok-clause-folds : goal.returns-in-Ok-clause-folds
returns-in-Ok-clause-folds g c =
    let old : FoldingParts = record { attributor = c.self.inside.attributor; notes = c.self.inside.notes } in
    let mid : FoldingParts = record { attributor = c.stop.new.self; notes = c.self.inside.notes } in
    let new : FoldingParts = record { attributor = c.stop.new.self; notes = c.deliver_file.new.notes } in
    subst (λ (o : FoldingParts). FoldsStop o (g.S.OutputStream.parts c.args.stream.now) c.args.session c.args.time c.deliver_file.result new (g.S.OutputStream.parts c.deliver_file.new.stream)) c.self.view_is
    (stopped_next old mid new c.args.session c.args.time c.deref.result.now c.deliver_file.result (g.S.OutputStream.parts c.args.stream.now) (g.S.OutputStream.parts c.deliver_file.new.stream)
    c.in-Ok.ensures.stands
    (λ items e is stands unended. subst (λ text. item_file c.self.inside.attributor.book.base (items ++ item.Event e ∷ []) c.args.session ≡ Some text) (sym c.deref.ensures.value) (c.in-Ok.ensures.file items e is stands unended))
    c.stop.ensures.base refl refl c.deliver_file.ensures.delivers)

pub returns-in-Err-NoSession-clause-folds : goal.returns-in-Err-NoSession-clause-folds
returns-in-Err-NoSession-clause-folds g c =
    let old : FoldingParts = record { attributor = c.self.inside.attributor; notes = c.self.inside.notes } in
    let new : FoldingParts = record { attributor = c.stop.new.self; notes = c.self.inside.notes } in
    subst (λ (o : FoldingParts). FoldsStop o (g.S.OutputStream.parts c.args.stream.now) c.args.session c.args.time (Ok tt) new (g.S.OutputStream.parts c.args.stream.now)) c.self.view_is
    (never_unknown old new c.args.session c.args.time (Ok tt) (g.S.OutputStream.parts c.args.stream.now) (g.S.OutputStream.parts c.args.stream.now)
    (subst (IsStopRefused (running_in c.self.inside.attributor) c.args.session.0) c.in-Err-NoSession.field-0-is c.in-Err-NoSession.ensures.refused))

pub returns-in-Err-Memory-clause-folds : goal.returns-in-Err-Memory-clause-folds
returns-in-Err-Memory-clause-folds g c =
    let old : FoldingParts = record { attributor = c.self.inside.attributor; notes = c.self.inside.notes } in
    let new : FoldingParts = record { attributor = c.stop.new.self; notes = c.self.inside.notes } in
    subst (λ (o : FoldingParts). FoldsStop o (g.S.OutputStream.parts c.args.stream.now) c.args.session c.args.time (Err Memory) new (g.S.OutputStream.parts c.args.stream.now)) c.self.view_is
    (stop_no_room old new c.args.session c.args.time (g.S.OutputStream.parts c.args.stream.now) c.stop.ensures.base)
