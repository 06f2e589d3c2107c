use Rattle.code_layout.proofs.Expanding.{plain_inlines_nothing, plain_slots_are_instructions}
use Rattle.code_layout.proofs.laws.plain_layouts_are_bodies.Goals as goal

pub returns : goal.returns
returns c = record { nothing_inlined = plain_inlines_nothing; slots = plain_slots_are_instructions }
