-- Worked examples: item lists whose files were worked out by hand.
use Rattle.std.proofs.Common.{lit≤}
use Rattle.std.specs.Prelude.{false, map, option_map, ℕ, ◌≤◌, List, [], ◌∷◌, Bool, true, Option, None, codes, Some}
use Rattle.prof_base.specs.declared.ids.SessionId.{SessionId}
use Rattle.prof_base.specs.declared.interval.TheConstants.{MAX_INTERVAL}
use Rattle.code_event.specs.Parts.{LayoutParts}
use Rattle.code_event.specs.ItemList.{stamped}
use Rattle.code_event.specs.CodeMap.{ranges}
use Rattle.code_event.specs.Symbolizer.{special}
use Rattle.code_event.specs.Seen.{seen_items}
use Rattle.code_event.specs.Recording.{recording}
use Rattle.code_event.specs.Subsample.{kept}
use Rattle.code_event.specs.ItemFile.{session}
use Rattle.code_event.specs.declared.code_map.Range.{Range}
use Rattle.code_event.specs.declared.seen.ResolvedFrame.{ResolvedFrame}
use Rattle.code_event.specs.declared.path.PathStep.{PathStep}
use Rattle.code_event.specs.declared.profile.LineTicks.{LineTicks}
use Rattle.code_event.specs.declared.profile.FinNode.{FinNode}
use Rattle.code_event.specs.declared.profile.Finished.{Finished}
use Rattle.code_event.specs.declared.entry.Entry.{Entry}
use Rattle.code_event.specs.declared.layout.Unit.{Unit as CodeUnit}
use Rattle.code_event.specs.declared.layout.Site.{Site}
use Rattle.code_event.specs.declared.layout.Slot.{Slot}
use Rattle.code_event.specs.declared.event.Mode.{Mode}
use Rattle.code_event.specs.declared.event.Mode.TheVariants.{Leaf, Caller}
use Rattle.code_event.specs.declared.event.Options.{Options}
use Rattle.code_event.specs.declared.event.CodeEvent.{CodeEvent}
use Rattle.code_event.specs.declared.event.CodeEvent.TheVariants.{Create, Start, Stop, Finish}
use Rattle.code_event.specs.declared.tick.VmState.{VmState}
use Rattle.code_event.specs.declared.tick.VmState.TheVariants.{Js, Idle, Native}
use Rattle.code_event.specs.declared.tick.Item.{Item}
use Rattle.code_event.specs.declared.tick.Item.TheVariants as item

-- a function of the script `a.js`, in column 1
abbrev pub entry : List ℕ → ℕ → ℕ → Entry
entry name line column = record { name = name; url = codes "a.js"; script = 1; line = line; column = column }

abbrev pub code_unit : ℕ → Entry → Option Site → CodeUnit
code_unit func entry parent = record { func = record { 0 = func }; entry = entry; parent = parent }

abbrev pub slot : ℕ → ℕ → ℕ → Slot
slot number index line = record { unit = number; index = index; line = line }

abbrev pub event : CodeEvent → Item
event e = item.Event (record { number = 0; ticks_before = 0; event = e })

abbrev pub tick : ℕ → ℕ → VmState → Bool → Option SessionId → List ℕ → Item
tick time interval state hit only frames =
    item.Tick (record { order = 0; tick_number = 0; time = time; interval = interval; state = state; hit = hit; only = only; frames = frames })

abbrev pub options : (interval : ℕ) → 1 ≤ interval → interval ≤ MAX_INTERVAL → Mode → Options
options interval low high mode = record { port = 0; interval = interval; mode = mode; max_samples = None; low = low; high = high }

-- f at 100 is taken away by g at 104, which overlaps it. Of three ticks the first and the third have no known frame.
abbrev pub overlap_fold : List Item
overlap_fold =
    stamped (
    event (Create 100 (record { units = code_unit 0 (entry (codes "f") 1 1) None ∷ []; slots = slot 0 0 1 ∷ slot 0 1 2 ∷ [] }))
    ∷ event (Create 104 (record { units = code_unit 1 (entry (codes "g") 5 1) None ∷ []; slots = slot 0 0 5 ∷ [] }))
    ∷ event (Start (session 1) (options 1000 (lit≤ tt) (lit≤ tt) Leaf) 0)
    ∷ tick 10 1000 Js true None (100 ∷ [])
    ∷ tick 20 1000 Js true None (104 ∷ 100 ∷ [])
    ∷ tick 30 1000 Js true None (999 ∷ [])
    ∷ event (Stop (session 1) 40)
    ∷ []
    )

-- its file
abbrev pub overlap_file : List ℕ
overlap_file = codes "{\"nodes\":[{\"id\":1,\"callFrame\":{\"functionName\":\"(root)\",\"scriptId\":\"0\",\"url\":\"\",\"lineNumber\":-1,\"columnNumber\":-1},\"hitCount\":0,\"children\":[2,3]},{\"id\":2,\"callFrame\":{\"functionName\":\"(program)\",\"scriptId\":\"0\",\"url\":\"\",\"lineNumber\":-1,\"columnNumber\":-1},\"hitCount\":2},{\"id\":3,\"callFrame\":{\"functionName\":\"g\",\"scriptId\":\"1\",\"url\":\"a.js\",\"lineNumber\":4,\"columnNumber\":0},\"hitCount\":1,\"positionTicks\":[{\"line\":5,\"ticks\":1}]}],\"startTime\":0,\"endTime\":40,\"samples\":[2,3,2],\"timeDeltas\":[10,10,10]}"

-- the layout of f with g inlined at its call in line 3
abbrev pub inlining : LayoutParts
inlining =
    record {
      units = code_unit 0 (entry (codes "f") 1 1) None ∷ code_unit 1 (entry (codes "g") 8 1) (Some (record { unit = 0; index = 1; line = 3 })) ∷ [];
      slots = slot 0 0 2 ∷ slot 0 1 3 ∷ slot 1 0 9 ∷ [];
    }

-- the ranges of that layout at 200
abbrev pub inlined : List Range
inlined = ranges (Create 200 inlining ∷ [])

abbrev pub frame : List ℕ → ℕ → ℕ → ResolvedFrame
frame name line at = record { entry = entry name line 1; line = at }

abbrev pub path_step : List ℕ → ℕ → ℕ → PathStep
path_step name line call_line = record { entry = entry name line 1; call_line = call_line }

-- three slots of one function
abbrev pub three_slots : LayoutParts
three_slots = record { units = code_unit 0 (entry (codes "f") 1 1) None ∷ []; slots = slot 0 0 1 ∷ slot 0 1 2 ∷ slot 0 2 3 ∷ [] }

-- Two sessions over f with g inlined. The first distinguishes the lines of calls and lists one sample; the second keeps every other tick and has one of its own.
abbrev pub two_sessions : List Item
two_sessions =
    stamped (
    event (Create 200 inlining)
    ∷ event (Start (session 1) (record (options 1000 (lit≤ tt) (lit≤ tt) Caller) { max_samples = Some 1 }) 0)
    ∷ event (Start (session 2) (options 2000 (lit≤ tt) (lit≤ tt) Leaf) 0)
    ∷ tick 10 1000 Js true None (208 ∷ [])
    ∷ tick 20 1000 Js true None (208 ∷ 204 ∷ [])
    ∷ tick 30 1000 Idle false (Some (session 2)) (208 ∷ [])
    ∷ event (Stop (session 1) 40)
    ∷ event (Stop (session 2) 50)
    ∷ []
    )

-- a node with no deopt reason
abbrev pub node : Entry → ℕ → List ℕ → List LineTicks → FinNode
node entry hits children lines = record { entry = entry; reason = None; hits = hits; children = children; lines = lines }

-- one tick at a line
abbrev pub once_at : ℕ → List LineTicks
once_at line = record { line = line; ticks = 1 } ∷ []

-- the first of the two
abbrev pub first_of_two : Finished
first_of_two =
    record {
      session = session 1;
      port = 0;
      start = 0;
      end = 40;
      nodes =
          node (special (codes "(root)")) 0 (2 ∷ []) []
          ∷ node (entry (codes "f") 1 1) 0 (3 ∷ 5 ∷ []) []
          ∷ node (entry (codes "f") 1 1) 0 (4 ∷ []) []
          ∷ node (entry (codes "g") 8 1) 1 [] (once_at 9)
          ∷ node (entry (codes "g") 8 1) 1 [] (once_at 9)
          ∷ [];
      samples = 5 ∷ [];
      deltas = 10 ∷ [];
    }

-- the second
abbrev pub second_of_two : Finished
second_of_two =
    record {
      session = session 2;
      port = 0;
      start = 0;
      end = 50;
      nodes =
          node (special (codes "(root)")) 0 (2 ∷ 3 ∷ []) []
          ∷ node (special (codes "(idle)")) 0 [] []
          ∷ node (entry (codes "f") 1 1) 0 (4 ∷ []) []
          ∷ node (entry (codes "g") 8 1) 1 [] (once_at 9)
          ∷ [];
      samples = 4 ∷ 2 ∷ [];
      deltas = 10 ∷ 20 ∷ [];
    }

-- Two sessions, every 1,000 and every 2,000 microseconds. Once the first is stopped, ticks are asked for at the second's interval.
abbrev pub two_intervals : List Item
two_intervals =
    stamped (
    event (Start (session 1) (options 1000 (lit≤ tt) (lit≤ tt) Leaf) 0)
    ∷ event (Start (session 2) (options 2000 (lit≤ tt) (lit≤ tt) Leaf) 0)
    ∷ tick 1000 1000 Native true None []
    ∷ tick 2000 1000 Native true None []
    ∷ tick 3000 1000 Native true None []
    ∷ tick 4000 1000 Native true None []
    ∷ tick 5000 1000 Native true None []
    ∷ event (Stop (session 1) 5000)
    ∷ tick 7000 2000 Native true None []
    ∷ event (Stop (session 2) 8000)
    ∷ []
    )

-- the times of the ticks that a session keeps, at base 1,000
abbrev pub kept_times : List Item → ℕ → Option (List ℕ)
kept_times items number = option_map (λ r. map (λ t. t.time) (kept 1000 r.begun)) (recording number (seen_items items))

-- sessions 2 and 1 start, in this order, and then these events come
abbrev pub two_started : List CodeEvent → List Item
two_started events =
    stamped (map event (
    Start (session 2) (options 1000 (lit≤ tt) (lit≤ tt) Leaf) 0
    ∷ Start (session 1) (options 1000 (lit≤ tt) (lit≤ tt) Leaf) 0
    ∷ events
    ))

-- a finish with files ends both
abbrev pub ended_together : List Item
ended_together = two_started (Finish 10 true ∷ [])

-- a finish without files ends both
abbrev pub ended_without_files : List Item
ended_without_files = two_started (Finish 10 false ∷ [])

-- session 1 is stopped, and a finish with files ends session 2
abbrev pub lower_stopped : List Item
lower_stopped = two_started (Stop (session 1) 10 ∷ Finish 20 true ∷ [])

-- session 2 is stopped, and a finish with files ends session 1
abbrev pub higher_stopped : List Item
higher_stopped = two_started (Stop (session 2) 10 ∷ Finish 20 true ∷ [])

-- session 1 is stopped and was never started: the list is not legal
abbrev pub never_started : List Item
never_started = stamped (event (Stop (session 1) 10) ∷ [])
