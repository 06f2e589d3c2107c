-- The puts of a depot in memory that fail.
use Rattle.std.specs.Prelude.{ℕ, ◌==◌, List, Option, option_map, find}
use Rattle.prof_outer.specs.declared.depot.MemoryDepot.{MemoryDepot}
use Rattle.prof_outer.specs.declared.failing.FailingPut.{FailingPut}
use Rattle.prof_outer.specs.declared.failing.Left.{Left}

-- what the call with this number leaves, where it is to fail: of two with one number, the first counts
abbrev pub left_by : List FailingPut → ℕ → Option Left
left_by puts call = option_map (λ put. put.left) (find (λ put. put.call == call) puts)

-- the puts that are to fail
abbrev pub failing_puts : MemoryDepot → List FailingPut
failing_puts depot = depot.failing_puts.items

-- how often `put` was called
abbrev pub put_calls : MemoryDepot → ℕ
put_calls depot = depot.put_calls
