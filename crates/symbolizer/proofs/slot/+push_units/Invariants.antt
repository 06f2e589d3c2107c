use Rattle.symbolizer.proofs.slot.+push_units.Given as goal

abbrev pub decreases-push_units : goal.decreases-push_units
decreases-push_units l = l.most
