use Rattle.std.proofs.Common.{arith, rules, ltb, ltb-true, ltb-false}
use Rattle.std.proofs.lemmas.List.Sorted.{IsPartitionPoint-from_clause, IsPartitionedBy-ltb}
use Rattle.code_space.specs.declared.range.CodeMove.{CodeMove}
use Rattle.code_objects.proofs.Searching.{found_at_point}
use Rattle.code_objects.proofs.moves.first_from.Goals as goal

pub returns : goal.returns
returns c =
    let parted = IsPartitionedBy-ltb (λ (m : CodeMove). m.from) _ c.args.start c.requires.rising in
    let point = IsPartitionPoint-from_clause (λ (m : CodeMove). ltb m.from c.args.start) _ _ c.partition_point.ensures.partitioned parted (λ a r q k. search rules) in
    found_at_point c.args.moves.now c.args.start c.partition_point.result c.requires.rising
    (λ k d less. ltb-true _ _ (point.0 k d (omega arith) less))
    (λ k d from less. ltb-false _ _ (point.1 k d from less))
