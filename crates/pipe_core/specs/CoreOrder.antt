-- What holds of the world after any steps: the order of what was raised and taken, and where the rest waits.
use Rattle.std.specs.Prelude.{◌≡◌, ◌⊎◌, ℕ, ◌+◌, ◌<◌, ◌≤◌, List, [], ◌∷◌, length, drop, Bool, true, false, Option, Some, None, option_map, if◌then◌else◌}
use Rattle.code_event.specs.declared.tick.Item.{Item}
use Rattle.code_event.specs.declared.tick.Tick.{Tick}
use Rattle.pipe_core.specs.Core.{start, run, front_cell, is_full, tick_in}
use Rattle.pipe_core.specs.Next.{is_event_next, is_tick_next, is_shown}
use Rattle.pipe_core.specs.Observed.{first_of}
use Rattle.pipe_core.specs.RingState.{IsRing}
use Rattle.pipe_core.specs.Stamps.{event_stamp, tick_stamp, ticks_of}
use Rattle.pipe_core.specs.declared.world.CoreStep.{CoreStep}
use Rattle.pipe_core.specs.declared.world.Fronting.{Fronting}
use Rattle.pipe_core.specs.declared.world.Fronting.TheVariants as fronting
use Rattle.pipe_core.specs.declared.world.Offering.{Offering}
use Rattle.pipe_core.specs.declared.world.Offering.TheVariants as offering
use Rattle.pipe_core.specs.declared.world.World.{World}

-- it holds of the world after any steps from a new world, whatever the number of places of its ring
abbrev pub AfterAnySteps : (World → Type 0) → Type 0
AfterAnySteps Holds = (places : ℕ) (steps : List CoreStep) → 1 ≤ places → Holds (run (start places) steps)

-- what was raised and not taken, where what was taken is the beginning of what was raised
abbrev pub not_taken : World → List Item
not_taken world = drop (length world.taken) world.raised

-- Two lists make up a third, each in its own order: the first of all is the first of one of them, and so for the rest.
abbrev pub IsJoined : {A : Type 0} → List A → List A → List A → Type 0
IsJoined one other [] = (one ≡ []) × (other ≡ [])
IsJoined {A} one other (x ∷ xs) =
    ((rest : List A) × (one ≡ x ∷ rest) × IsJoined rest other xs) ⊎ ((rest : List A) × (other ≡ x ∷ rest) × IsJoined one rest xs)

-- the numbers of the ticks rise, and the first is above this one
abbrev pub AreRising : ℕ → List Tick → Type 0
AreRising before [] = Unit {0}
AreRising before (t ∷ ticks) = (before < t.tick_number) × AreRising t.tick_number ticks

-- the next slot has the tick of an offer exactly where that was written
abbrev pub IsOffered : Offering → Option Tick → Type 0
IsOffered offering.Idle offered = offered ≡ None
IsOffered (offering.Looked tick) offered = offered ≡ None
IsOffered offering.Written offered = (tick : Tick) × (offered ≡ Some tick)

-- an offer is under way
abbrev pub is_offering : Offering → Bool
is_offering offering.Idle = false
is_offering (offering.Looked tick) = true
is_offering offering.Written = true

-- whether the first tick that waits is held
abbrev pub IsHeld : Fronting → List Tick → Bool → Type 0
IsHeld fronting.Idle waiting is_held = is_held ≡ false
IsHeld fronting.Looked waiting is_held = (is_held ≡ false) × (0 < length waiting)
IsHeld (fronting.Held tick) waiting is_held = (is_held ≡ true) × (first_of waiting ≡ Some tick)

-- The ring and the engine's queue have the ticks that were raised and not taken, each queue its own in rising number; a held tick is the first of the ring's. The slots are those of a ring through which these ticks were sent.
pub record HasOtherTicks (world : World) : Type 0 where
  pub gone : List Tick
  pub waiting : List Tick
  pub sent : world.sent ≡ length gone + length waiting
  pub removed : world.removed ≡ length gone
  pub ticks : IsJoined world.vm_ticks waiting (ticks_of (not_taken world))
  pub vm_rising : AreRising world.ticked world.vm_ticks
  pub ring_rising : AreRising world.ticked waiting
  pub is_held : Bool
  pub held : IsHeld world.fronting waiting is_held
  pub offered : Option Tick
  pub offering : IsOffered world.offering offered
  pub room : is_offering world.offering ≡ true → length waiting < length world.cells
  pub cells : IsRing world.cells gone waiting is_held offered

-- the front of the ring: the tick that is held, or the one in a slot that is marked full
abbrev pub front_of : World → Fronting → Option Tick
front_of world (fronting.Held tick) = Some tick
front_of world other = if is_full (front_cell world) then tick_in (front_cell world) else None

-- neither queue begins with the item that is next, and the ring's front is not it
pub record NoneIsNext (world : World) : Type 0 where
  pub event : is_shown (is_event_next world.applied world.ticked) (option_map event_stamp (first_of world.events)) ≡ false
  pub vm_tick : is_shown (is_tick_next world.applied world.ticked) (option_map tick_stamp (first_of world.vm_ticks)) ≡ false
  pub front : is_shown (is_tick_next world.applied world.ticked) (option_map tick_stamp (front_of world world.fronting)) ≡ false
