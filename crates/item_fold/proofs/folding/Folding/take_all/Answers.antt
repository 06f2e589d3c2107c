use Rattle.std.proofs.Common.{◌+◌, List, take, drop, subst, sym, ◌∙◌, arith}
use Rattle.std.proofs.lemmas.List.{take_all}
use Rattle.std.specs.Prelude.{Ok}
use Rattle.code_event.specs.ItemFile.{item_files}
use Rattle.code_event.specs.ItemList.{IsLegalItems}
use Rattle.code_event.specs.declared.tick.Item.{Item}
use Rattle.item_fold.specs.Delivered.{Delivers}
use Rattle.item_fold.specs.Folding.{HasFolded}
use Rattle.item_fold.proofs.Ending.{files_so_far}
use Rattle.item_fold.proofs.Taking.{next_taken, next_split}
use Rattle.item_fold.proofs.folding.Folding.take_all.Goals as goal

pub loop-item-preserved : goal.loop-item-preserved
loop-item-preserved g c =
    let items : List Item = c.args.items.now in
    let at = c.loop-item.item-index in
    record {
      folded = λ base before legal h.
          subst (λ (l : List Item). HasFolded base l (Ok tt) c.take.new.self before (g.S.OutputStream.parts c.take.new.stream)) (sym (next_taken items at c.item-item.result (omega arith) (sym c.item-item.is)))
          (c.in_default.ensures.folds base (take at items) (drop (at + 1) items) before (subst IsLegalItems (next_split items at c.item-item.result (omega arith) (sym c.item-item.is)) legal)
          (c.loop-item.invariant.folded base before legal h));
      chunk_size = c.take.ensures.chunk_size ∙ c.loop-item.invariant.chunk_size;
      aborts = omega (arith, c.take.ensures.aborts, c.loop-item.invariant.aborts);
      faults = omega (arith, c.take.ensures.faults, c.loop-item.invariant.faults);
    }

pub returns-in-Err-clause-delivers : goal.returns-in-Err-clause-delivers
returns-in-Err-clause-delivers g c base before legal h =
    let items : List Item = c.args.items.now in
    let at = c.loop-item.item-index in
    let split = next_split items at c.item-item.result (omega arith) (sym c.item-item.is) in
    files_so_far base (take at items) (drop (at + 1) items) c.item-item.result items c.in-Err.fault c.take.new.self before (g.S.OutputStream.parts c.take.new.stream) split legal
    (c.in-Err.ensures.folds base (take at items) (drop (at + 1) items) before (subst IsLegalItems split legal) (c.loop-item.invariant.folded base before legal h))

pub returns-clause-delivers : goal.returns-clause-delivers
returns-clause-delivers g c base before legal h =
    subst (λ (l : List Item). Delivers (item_files base l) (Ok tt) c.loop-item.self.notes before (g.S.OutputStream.parts c.loop-item.stream))
    (take_all c.loop-item.item-index c.args.items.now (omega arith))
    (c.loop-item.invariant.folded base before legal h).delivers
