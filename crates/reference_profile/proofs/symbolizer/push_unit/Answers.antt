use Rattle.std.proofs.Common.{sym}
use Rattle.reference_profile.proofs.UnitsAbove.{unit_frame_none}
use Rattle.reference_profile.proofs.symbolizer.push_unit.Goals as goal

pub returns-in-None : goal.returns-in-None
returns-in-None c = sym (unit_frame_none c.args.frames.now c.args.layout.now c.args.number c.args.line (sym c.in-None.ensures))
