-- What a processor ends as, where one of its ends was lent.
use Rattle.std.specs.Borrow.{Lends, Fml, RattleType, MutBor}
use Rattle.processor.specs.contracts.processor.Processor.{the_row}
use Rattle.processor.specs.Processor.{ProcessorParts}

module _ (E V F S : RattleType) (s : MutBor (ProcessorParts E.Denot V.Denot F.Denot S.Denot)) where
  -- once the borrow r ends, the processor has the end of events that was last written through r
  abbrev pub lends_events : MutBor E.Denot → Fml
  lends_events r = Lends (the_row E V F S) E s r (λ w. record s.now { events = w })

  -- the same for the end of the ticks that no sampling made
  abbrev pub lends_vm_ticks : MutBor V.Denot → Fml
  lends_vm_ticks r = Lends (the_row E V F S) V s r (λ w. record s.now { vm_ticks = w })

  -- the same for the end of the ring
  abbrev pub lends_ring : MutBor F.Denot → Fml
  lends_ring r = Lends (the_row E V F S) F s r (λ w. record s.now { ring = w })
