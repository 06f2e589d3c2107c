-- What sessions see of a run, apart from addresses: marks and ticks with their resolved frames.
use Rattle.std.specs.Prelude.{ℕ, List, [], ◌∷◌, ◌++◌, Bool}
use Rattle.code_event.specs.CodeMap.{after_event}
use Rattle.code_event.specs.DeoptReasons.{DeoptReasons, reasons_in, no_reasons, reasons_after_event}
use Rattle.code_event.specs.Symbolizer.{tick_frames}
use Rattle.code_event.specs.declared.code_map.Range.{Range}
use Rattle.code_event.specs.declared.seen.ResolvedTick.{ResolvedTick}
use Rattle.code_event.specs.declared.seen.Seen.{Seen as ListedSeen}
use Rattle.code_event.specs.declared.seen.Seen.TheVariants as listed
use Rattle.prof_base.specs.declared.ids.SessionId.{SessionId}
use Rattle.code_event.specs.declared.event.Options.{Options}
use Rattle.code_event.specs.declared.event.CodeEvent.{CodeEvent}
use Rattle.code_event.specs.declared.event.CodeEvent.TheVariants.{Create, Move, NoOpt, Deopt, Delete, Start, Stop, Finish}
use Rattle.code_event.specs.declared.tick.Item.{Item}
use Rattle.code_event.specs.declared.tick.Item.TheVariants as item
use Rattle.code_event.specs.declared.tick.Tick.{Tick}

-- A session's start, a stop or a finish, of which these two carry the reasons of that moment, or a tick.
pub data Seen : Type 0 where
  started : SessionId → Options → ℕ → Seen
  stopped : SessionId → ℕ → DeoptReasons → Seen
  finished : ℕ → Bool → DeoptReasons → Seen
  ticked : ResolvedTick → Seen

-- what is seen, of which the code keeps the reasons in lists
abbrev pub seen_by : ListedSeen → Seen
seen_by (listed.Started session options time) = started session options time
seen_by (listed.Stopped session time reasons) = stopped session time (reasons_in reasons)
seen_by (listed.Finished time files reasons) = finished time files (reasons_in reasons)
seen_by (listed.Ticked tick) = ticked tick

-- a tick over the ranges of its moment
abbrev pub resolved_tick : List Range → Tick → ResolvedTick
resolved_tick ranges tick = record { time = tick.time; interval = tick.interval; hit = tick.hit; only = tick.only; frames = tick_frames ranges tick }

-- the mark of an event, if it is one, with the reasons of its moment
abbrev pub mark : DeoptReasons → CodeEvent → List Seen
mark reasons (Start session options time) = started session options time ∷ []
mark reasons (Stop session time) = stopped session time reasons ∷ []
mark reasons (Finish time files) = finished time files reasons ∷ []
mark reasons (Create start layout) = []
mark reasons (Move from to) = []
mark reasons (NoOpt start reason) = []
mark reasons (Deopt start reason) = []
mark reasons (Delete start) = []

-- what is seen of items that follow events with these ranges and reasons
abbrev pub seen_behind : List Range → DeoptReasons → List Item → List Seen
seen_behind ranges reasons [] = []
seen_behind ranges reasons (item.Event e ∷ items) =
    mark reasons e.event ++ seen_behind (after_event ranges e.event) (reasons_after_event ranges reasons e.event) items
seen_behind ranges reasons (item.Tick t ∷ items) = ticked (resolved_tick ranges t) ∷ seen_behind ranges reasons items

-- what is seen of an item list
abbrev pub seen_items : List Item → List Seen
seen_items items = seen_behind [] no_reasons items
