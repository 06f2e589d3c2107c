-- The ends of an isolate, as they are lent out.
use Rattle.std.specs.Borrow.{Lends, Fml, RattleType, MutBor}
use Rattle.isolate_ends.specs.contracts.ends.Ends.{the_row as ends_row}
use Rattle.isolate_ends.specs.declared.ends.Ends.{Ends}
use Rattle.isolate_turns.specs.contracts.state.Isolate.{the_row}
use Rattle.isolate_turns.specs.declared.state.Isolate.{Isolate}

module _ (E V O : RattleType) (s : MutBor (Isolate E.Denot V.Denot O.Denot)) where
  -- once the borrow r ends, the isolate has the ends that were last written through r
  abbrev pub lends_ends : MutBor (Ends E.Denot V.Denot O.Denot) → Fml
  lends_ends r = Lends (the_row E V O) (ends_row E V O) s r (λ w. record s.now { ends = w })
