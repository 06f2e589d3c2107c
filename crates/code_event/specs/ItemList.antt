-- Lists of items: the events and the undropped ticks of an isolate in the order in which it raised them. Starts and stops of sessions are events.
use Rattle.std.specs.Prelude.{◌≡◌, ℕ, suc, ◌<◌, ◌≤◌, List, [], ◌∷◌, length, filter, not, ◌==◌, Contains}
use Rattle.code_event.specs.declared.event.TheConstants.{MAX_SESSIONS}
use Rattle.code_event.specs.declared.event.CodeEvent.{CodeEvent}
use Rattle.code_event.specs.declared.event.CodeEvent.TheVariants.{Create, Move, NoOpt, Deopt, Delete, Start, Stop, Finish}
use Rattle.code_event.specs.declared.event.EventRecord.{EventRecord}
use Rattle.code_event.specs.declared.tick.Item.{Item}
use Rattle.code_event.specs.declared.tick.Item.TheVariants as item
use Rattle.code_event.specs.declared.tick.Tick.{Tick}

-- an event with its stamps, after this many events and this many ticks
abbrev pub stamped_event : ℕ → ℕ → EventRecord → EventRecord
stamped_event events ticks e = record { number = suc events; ticks_before = ticks; event = e.event }

-- a tick with its stamps
abbrev pub stamped_tick : ℕ → ℕ → Tick → Tick
stamped_tick events ticks t =
    record {
      order = events;
      tick_number = suc ticks;
      time = t.time;
      interval = t.interval;
      state = t.state;
      hit = t.hit;
      only = t.only;
      frames = t.frames;
    }

-- the items with their stamps, after this many events and this many ticks
abbrev pub stamped_behind : ℕ → ℕ → List Item → List Item
stamped_behind events ticks [] = []
stamped_behind events ticks (item.Event e ∷ items) = item.Event (stamped_event events ticks e) ∷ stamped_behind (suc events) ticks items
stamped_behind events ticks (item.Tick t ∷ items) = item.Tick (stamped_tick events ticks t) ∷ stamped_behind events (suc ticks) items

-- the items with their stamps: events and ticks are numbered separately, each from 1
abbrev pub stamped : List Item → List Item
stamped items = stamped_behind 0 0 items

-- after this many events and this many ticks, each event has its number and says how many ticks come before it, and each tick has its number and says how many events do
abbrev pub IsStampedBehind : ℕ → ℕ → List Item → Type 0
IsStampedBehind events ticks [] = Unit {0}
IsStampedBehind events ticks (item.Event e ∷ items) = (e.number ≡ suc events) × (e.ticks_before ≡ ticks) × IsStampedBehind (suc events) ticks items
IsStampedBehind events ticks (item.Tick t ∷ items) = (t.tick_number ≡ suc ticks) × (t.order ≡ events) × IsStampedBehind events (suc ticks) items

-- the list is stamped
abbrev pub IsStamped : List Item → Type 0
IsStamped items = IsStampedBehind 0 0 items

-- the numbers except this one
abbrev pub without : ℕ → List ℕ → List ℕ
without n ns = filter (λ m. not (m == n)) ns

-- what has happened so far: the latest time, the sessions that were started, and those that run
pub record ListSoFar : Type 0 where
  pub time : ℕ
  pub started : List ℕ
  pub running : List ℕ

-- an event may come next, and so may what comes after it
abbrev pub MayCome : ListSoFar → CodeEvent → List Item → (ListSoFar → Type 0) → Type 0
MayCome course (Create start layout) items Then = Then course
MayCome course (Move from to) items Then = Then course
MayCome course (NoOpt start reason) items Then = Then course
MayCome course (Deopt start reason) items Then = Then course
MayCome course (Delete start) items Then = Then course
MayCome course (Start session options time) items Then =
    (course.time ≤ time) × ¬ Contains course.started session.0 × (length course.running < MAX_SESSIONS)
    × Then (record { time = time; started = session.0 ∷ course.started; running = session.0 ∷ course.running })
MayCome course (Stop session time) items Then =
    (course.time ≤ time) × Contains course.running session.0
    × Then (record { time = time; started = course.started; running = without session.0 course.running })
MayCome course (Finish time files) items Then = (course.time ≤ time) × (items ≡ [])

-- the items may come after what has happened so far
abbrev pub IsLegalAfter : ListSoFar → List Item → Type 0
IsLegalAfter course [] = Unit {0}
IsLegalAfter course (item.Event e ∷ items) = MayCome course e.event items (λ next. IsLegalAfter next items)
IsLegalAfter course (item.Tick t ∷ items) =
    (course.time ≤ t.time) × IsLegalAfter (record { time = t.time; started = course.started; running = course.running }) items

-- The list is legal: times do not fall, nothing follows a finish, no session is started twice, at most MAX_SESSIONS run at once, and only a session that runs is stopped.
abbrev pub IsLegalItems : List Item → Type 0
IsLegalItems items = IsLegalAfter (record { time = 0; started = []; running = [] }) items
