-- What holds of a world after any steps, with the rest that waits.
use Rattle.std.proofs.Common.{◌≡◌, ◌+◌, ◌<◌, List, ◌++◌, length}
use Rattle.std.specs.Prelude.{Bool, true, Option}
use Rattle.code_event.specs.ItemList.{IsStamped}
use Rattle.code_event.specs.declared.tick.Item.{Item}
use Rattle.code_event.specs.declared.tick.Tick.{Tick}
use Rattle.pipe_core.specs.CoreOrder.{IsJoined, AreRising, IsOffered, is_offering, IsHeld, NoneIsNext}
use Rattle.pipe_core.specs.RingState.{IsRing}
use Rattle.pipe_core.specs.Stamps.{events_of, ticks_of, event_count, tick_count}
use Rattle.pipe_core.specs.declared.world.World.{World}

pub record IsInOrder (world : World) : Type 0 where
  pub stamped : IsStamped world.raised
  pub rest : List Item
  pub raised : world.raised ≡ world.taken ++ rest
  pub taken_stamped : IsStamped world.taken
  pub applied : world.applied ≡ event_count world.taken
  pub ticked : world.ticked ≡ tick_count world.taken
  pub events : world.events ≡ events_of rest
  pub ring_taken : List Tick
  pub ring : List Tick
  pub ticks : IsJoined world.vm_ticks ring (ticks_of rest)
  pub vm_rising : AreRising world.ticked world.vm_ticks
  pub ring_rising : AreRising world.ticked ring
  pub sent : world.sent ≡ length ring_taken + length ring
  pub removed : world.removed ≡ length ring_taken
  pub is_held : Bool
  pub held : IsHeld world.fronting ring is_held
  pub offered : Option Tick
  pub offering : IsOffered world.offering offered
  pub room : is_offering world.offering ≡ true → length ring < length world.cells
  pub cells : IsRing world.cells ring_taken ring is_held offered
  pub all_taken : NoneIsNext world → world.taken ≡ world.raised
