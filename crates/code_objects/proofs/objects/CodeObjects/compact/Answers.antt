use Rattle.std.proofs.Common.{◌++◌, length, map, take, drop, ap, ◌∙◌, arith}
use Rattle.code_space.specs.Compaction.{compacted, moves_between}
use Rattle.code_space.specs.declared.range.TheConstants.{FIRST_ADDRESS}
use Rattle.code_objects.proofs.Codes.{codes_slid}
use Rattle.code_objects.proofs.Searching.{compaction_rises}
use Rattle.code_objects.proofs.Stored.{IsCompacted, compaction, moves_few}
use Rattle.code_objects.specs.Changes.{move_event}
use Rattle.code_objects.proofs.objects.CodeObjects.compact.Goals as goal

pub slide_objects-requires : goal.slide_objects-requires
slide_objects-requires c = record { rising = compaction_rises c.as_slice-2.result.now c.self.inside.space c.as_slice.ensures.space (c.as_slice-2.ensures ∙ c.in_ok-moves.ensures.moves) }

pub move_events-requires : goal.move_events-requires
move_events-requires c =
    let space = c.self.inside.space in
    let moves = ap length (c.as_slice-3.ensures ∙ c.in_ok-moves.ensures.moves) in
    let few = moves_few space (compacted FIRST_ADDRESS space) in
    let ranges = ap length c.as_slice.ensures.ranges in
    let empty = c.in_ok-events.ensures.len in
    let capacity = c.in_ok-events.ensures.capacity in
    record { room = omega (arith, moves, few, ranges, empty, capacity) }

done : (c : goal.After-drop-moves-inside)
    → IsCompacted c.self.inside.program c.args.self.now c.from_vec.result
    (take c.self.inside.codes.len (c.slide_objects.new.codes ++ drop (length c.slide_objects.new.codes) c.self.inside.codes.items)) c.compact.new.self
done c =
    let moves = moves_between c.self.inside.space (compacted FIRST_ADDRESS c.self.inside.space) in
    compaction c.self.inside.program c.self.inside.codes.items _ c.self.inside.space c.compact.new.self c.args.self.now c.from_vec.result
    c.self.invariant c.self.view_is c.as_slice.ensures.space
    (codes_slid c.self.inside.codes.len c.as_slice-2.result.now moves c.slide_objects.new.codes c.deref_mut.result.now c.self.inside.codes.items c.deref_mut.ensures.value c.deref_mut.ensures.len c.slide_objects.ensures (c.as_slice-2.ensures ∙ c.in_ok-moves.ensures.moves))
    c.in_ok-moves.ensures.compacted
    (c.from_vec.ensures ∙ c.move_events.ensures ∙ ap (λ es. es ++ map move_event c.as_slice-3.result.now) c.in_ok-events.ensures.items ∙ ap (map move_event) (c.as_slice-3.ensures ∙ c.in_ok-moves.ensures.moves))

pub invariant_of-self-2 : goal.invariant_of-self-2
invariant_of-self-2 c = (done c).objects

pub returns-clause-starts : goal.returns-clause-starts
returns-clause-starts c = (done c).starts

pub returns-clause-there : goal.returns-clause-there
returns-clause-there c = (done c).there

pub returns-clause-ranges : goal.returns-clause-ranges
returns-clause-ranges c = (done c).ranges
