use Rattle.std.proofs.Common.{◌∙◌, ap, sym, length}
use Rattle.code_space.specs.Compaction.{compacted}
use Rattle.code_space.specs.declared.range.TheConstants.{FIRST_ADDRESS}
use Rattle.code_space.proofs.Compacted.{space_written}
use Rattle.code_space.proofs.space.CodeSpace.compact.Goals as goal

pub invariant_of-self : goal.invariant_of-self
invariant_of-self c =
    space_written c.self.inside.ranges.len c.slide.new.ranges c.self.inside.ranges.items c.self.invariant (c.slide.ensures.compacted ∙ ap (compacted FIRST_ADDRESS) c.deref_mut.ensures.value)
    (sym (ap length c.deref_mut.ensures.value) ∙ c.deref_mut.ensures.len)
