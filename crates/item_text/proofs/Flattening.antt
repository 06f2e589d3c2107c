-- A stamped item list is determined by its lines.
use Rattle.std.proofs.Common.{◌≡◌, ◌∙◌, ℕ, suc, ◌<◌, ◌≤◌, List, [], ◌∷◌, ◌++◌, map, Option, Some, None, refl, sym, ap, ap₂, append_assoc, arith, ◌⊎◌, inl, inr}
use Rattle.std.proofs.Math.Bridge.{le_prop}
use Rattle.std.proofs.lemmas.Bool.{cases_lt}
use Rattle.prof_base.specs.declared.interval.TheConstants.{MAX_INTERVAL}
use Rattle.prof_base.specs.declared.ids.SessionId.{SessionId}
use Rattle.code_event.proofs.Stamping.{stamped_are_one}
use Rattle.code_event.specs.ItemList.{stamped_behind, IsStamped}
use Rattle.code_event.specs.declared.event.CodeEvent.{CodeEvent}
use Rattle.code_event.specs.declared.event.CodeEvent.TheVariants as event
use Rattle.code_event.specs.declared.event.Mode.{Mode}
use Rattle.code_event.specs.declared.event.Options.{Options}
use Rattle.code_event.specs.declared.layout.Slot.{Slot}
use Rattle.code_event.specs.declared.layout.Unit.{Unit as CodeUnit}
use Rattle.code_event.specs.declared.tick.Item.{Item}
use Rattle.code_event.specs.declared.tick.Item.TheVariants as item
use Rattle.item_text.specs.declared.item_line.LineEvent.TheVariants.{Move, NoOpt, Deopt, Delete, Start, Stop, Finish}
use Rattle.item_text.specs.declared.item_line.TickLine.{TickLine}
use Rattle.item_text.specs.declared.item_line.ItemLine.{ItemLine}
use Rattle.item_text.specs.declared.item_line.ItemLine.TheVariants as line
use Rattle.item_text.specs.declared.item_line.TextLine.{TextLine}
use Rattle.item_text.specs.declared.item_line.TextLine.TheVariants.{Head, Body}
use Rattle.item_text.specs.declared.items.ItemList.{ItemList}
use Rattle.item_text.specs.Items.{event_lines, tick_line, lines_of_items, item_lines}

-- an item without its stamps: its first line, its units and its slots
abbrev Bare : Type 0
Bare = ItemLine × List CodeUnit × List Slot

abbrev event_bare : CodeEvent → Bare
event_bare (event.Create start layout) = (line.Create start, layout.units, layout.slots)
event_bare (event.Move from to) = (line.Event (Move from to), [], [])
event_bare (event.NoOpt start reason) = (line.Event (NoOpt start reason), [], [])
event_bare (event.Deopt start reason) = (line.Event (Deopt start reason), [], [])
event_bare (event.Delete start) = (line.Event (Delete start), [], [])
event_bare (event.Start session options time) = (line.Event (Start session options.port options.interval options.mode options.max_samples time), [], [])
event_bare (event.Stop session time) = (line.Event (Stop session time), [], [])
event_bare (event.Finish time files) = (line.Event (Finish time files), [], [])

abbrev item_bare : Item → Bare
item_bare (item.Event e) = event_bare e.event
item_bare (item.Tick tick) = (line.Tick (tick_line tick), [], [])

-- the units that come next, and the lines after them
abbrev units_next : List ItemLine → List CodeUnit
units_next [] = []
units_next (line.Unit u ∷ lines) = u ∷ units_next lines
units_next (line.Create start ∷ lines) = []
units_next (line.Slot slot ∷ lines) = []
units_next (line.Event e ∷ lines) = []
units_next (line.Tick tick ∷ lines) = []

abbrev after_units : List ItemLine → List ItemLine
after_units [] = []
after_units (line.Unit u ∷ lines) = after_units lines
after_units (line.Create start ∷ lines) = line.Create start ∷ lines
after_units (line.Slot slot ∷ lines) = line.Slot slot ∷ lines
after_units (line.Event e ∷ lines) = line.Event e ∷ lines
after_units (line.Tick tick ∷ lines) = line.Tick tick ∷ lines

-- the same of slots
abbrev slots_next : List ItemLine → List Slot
slots_next [] = []
slots_next (line.Slot slot ∷ lines) = slot ∷ slots_next lines
slots_next (line.Create start ∷ lines) = []
slots_next (line.Unit u ∷ lines) = []
slots_next (line.Event e ∷ lines) = []
slots_next (line.Tick tick ∷ lines) = []

abbrev after_slots : List ItemLine → List ItemLine
after_slots [] = []
after_slots (line.Slot slot ∷ lines) = after_slots lines
after_slots (line.Create start ∷ lines) = line.Create start ∷ lines
after_slots (line.Unit u ∷ lines) = line.Unit u ∷ lines
after_slots (line.Event e ∷ lines) = line.Event e ∷ lines
after_slots (line.Tick tick ∷ lines) = line.Tick tick ∷ lines

-- the item that comes next, and the lines after it
abbrev next_item : List ItemLine → Option (Bare × List ItemLine)
next_item [] = None
next_item (line.Create start ∷ lines) = Some ((line.Create start, units_next lines, slots_next (after_units lines)), after_slots (after_units lines))
next_item (line.Unit u ∷ lines) = None
next_item (line.Slot slot ∷ lines) = None
next_item (line.Event e ∷ lines) = Some ((line.Event e, [], []), lines)
next_item (line.Tick tick ∷ lines) = Some ((line.Tick tick, [], []), lines)

-- no unit or slot comes next
abbrev Begins : List ItemLine → Type 0
Begins [] = Unit {0}
Begins (line.Create start ∷ lines) = Unit {0}
Begins (line.Unit u ∷ lines) = ⊥
Begins (line.Slot slot ∷ lines) = ⊥
Begins (line.Event e ∷ lines) = Unit {0}
Begins (line.Tick tick ∷ lines) = Unit {0}

-- no unit comes next
abbrev NoUnit : List ItemLine → Type 0
NoUnit [] = Unit {0}
NoUnit (line.Create start ∷ lines) = Unit {0}
NoUnit (line.Unit u ∷ lines) = ⊥
NoUnit (line.Slot slot ∷ lines) = Unit {0}
NoUnit (line.Event e ∷ lines) = Unit {0}
NoUnit (line.Tick tick ∷ lines) = Unit {0}

units_none : (lines : List ItemLine) → NoUnit lines → (units_next lines ≡ []) × (after_units lines ≡ lines)
units_none [] h = (refl, refl)
units_none (line.Create start ∷ lines) h = (refl, refl)
units_none (line.Unit u ∷ lines) h = absurd h
units_none (line.Slot slot ∷ lines) h = (refl, refl)
units_none (line.Event e ∷ lines) h = (refl, refl)
units_none (line.Tick tick ∷ lines) h = (refl, refl)

slots_none : (lines : List ItemLine) → Begins lines → (slots_next lines ≡ []) × (after_slots lines ≡ lines)
slots_none [] h = (refl, refl)
slots_none (line.Create start ∷ lines) h = (refl, refl)
slots_none (line.Unit u ∷ lines) h = absurd h
slots_none (line.Slot slot ∷ lines) h = absurd h
slots_none (line.Event e ∷ lines) h = (refl, refl)
slots_none (line.Tick tick ∷ lines) h = (refl, refl)

units_some : (units : List CodeUnit) (lines : List ItemLine) → NoUnit lines → (units_next (map (λ u. line.Unit u) units ++ lines) ≡ units) × (after_units (map (λ u. line.Unit u) units ++ lines) ≡ lines)
units_some [] lines h = units_none lines h
units_some (u ∷ units) lines h = let later = units_some units lines h in (ap (λ (z : List CodeUnit). u ∷ z) later.0, later.1)

slots_some : (slots : List Slot) (lines : List ItemLine) → Begins lines → (slots_next (map (λ s. line.Slot s) slots ++ lines) ≡ slots) × (after_slots (map (λ s. line.Slot s) slots ++ lines) ≡ lines)
slots_some [] lines h = slots_none lines h
slots_some (slot ∷ slots) lines h = let later = slots_some slots lines h in (ap (λ (z : List Slot). slot ∷ z) later.0, later.1)

no_unit_begins : (lines : List ItemLine) → Begins lines → NoUnit lines
no_unit_begins [] h = tt
no_unit_begins (line.Create start ∷ lines) h = tt
no_unit_begins (line.Unit u ∷ lines) h = h
no_unit_begins (line.Slot slot ∷ lines) h = tt
no_unit_begins (line.Event e ∷ lines) h = tt
no_unit_begins (line.Tick tick ∷ lines) h = tt

no_unit_slots : (slots : List Slot) (lines : List ItemLine) → Begins lines → NoUnit (map (λ s. line.Slot s) slots ++ lines)
no_unit_slots [] lines h = no_unit_begins lines h
no_unit_slots (slot ∷ slots) lines h = tt

next_code : (start : ℕ) (units : List CodeUnit) (slots : List Slot) (rest : List ItemLine) → Begins rest
    → next_item ((line.Create start ∷ (map (λ u. line.Unit u) units ++ map (λ s. line.Slot s) slots)) ++ rest) ≡ Some ((line.Create start, units, slots), rest)
next_code start units slots rest h =
    let lines = map (λ s. line.Slot s) slots ++ rest in
    let u = units_some units lines (no_unit_slots slots rest h) in
    let s = slots_some slots rest h in
    rw (append_assoc (map (λ u. line.Unit u) units) (map (λ s. line.Slot s) slots) rest, u.0, u.1, s.0, s.1) refl

next_event : (e : CodeEvent) (rest : List ItemLine) → Begins rest → next_item (event_lines e ++ rest) ≡ Some (event_bare e, rest)
next_event (event.Create start layout) rest h = next_code start layout.units layout.slots rest h
next_event (event.Move from to) rest h = refl
next_event (event.NoOpt start reason) rest h = refl
next_event (event.Deopt start reason) rest h = refl
next_event (event.Delete start) rest h = refl
next_event (event.Start session options time) rest h = refl
next_event (event.Stop session time) rest h = refl
next_event (event.Finish time files) rest h = refl

event_begins : (e : CodeEvent) (rest : List ItemLine) → Begins (event_lines e ++ rest)
event_begins (event.Create start layout) rest = tt
event_begins (event.Move from to) rest = tt
event_begins (event.NoOpt start reason) rest = tt
event_begins (event.Deopt start reason) rest = tt
event_begins (event.Delete start) rest = tt
event_begins (event.Start session options time) rest = tt
event_begins (event.Stop session time) rest = tt
event_begins (event.Finish time files) rest = tt

items_begin : (items : List Item) → Begins (lines_of_items items)
items_begin [] = tt
items_begin (item.Event e ∷ items) = event_begins e.event (lines_of_items items)
items_begin (item.Tick tick ∷ items) = tt

next_is : (first : Item) (items : List Item) → next_item (lines_of_items (first ∷ items)) ≡ Some (item_bare first, lines_of_items items)
next_is (item.Event e) items = next_event e.event (lines_of_items items) (items_begin items)
next_is (item.Tick tick) items = refl

-- options with an interval in its range
abbrev start_from : SessionId → ℕ → (interval : ℕ) → Mode → Option ℕ → ℕ → ((0 < interval) ⊎ (interval ≤ 0)) → ((MAX_INTERVAL < interval) ⊎ (interval ≤ MAX_INTERVAL)) → Option CodeEvent
start_from session port interval mode max time (inl some) (inr high) =
    Some (event.Start session (record { port = port; interval = interval; mode = mode; max_samples = max; low = omega (arith, some); high = high }) time)
start_from session port interval mode max time (inl some) (inl over) = None
start_from session port interval mode max time (inr none) high = None

-- the event of a first line, units and slots
abbrev event_from : Bare → Option CodeEvent
event_from (line.Create start, units, slots) = Some (event.Create start (record { units = units; slots = slots }))
event_from (line.Event (Move from to), units, slots) = Some (event.Move from to)
event_from (line.Event (NoOpt start reason), units, slots) = Some (event.NoOpt start reason)
event_from (line.Event (Deopt start reason), units, slots) = Some (event.Deopt start reason)
event_from (line.Event (Delete start), units, slots) = Some (event.Delete start)
event_from (line.Event (Start session port interval mode max time), units, slots) = start_from session port interval mode max time (cases_lt 0 interval) (cases_lt MAX_INTERVAL interval)
event_from (line.Event (Stop session time), units, slots) = Some (event.Stop session time)
event_from (line.Event (Finish time files), units, slots) = Some (event.Finish time files)
event_from (line.Unit u, units, slots) = None
event_from (line.Slot slot, units, slots) = None
event_from (line.Tick tick, units, slots) = None

start_is : (session : SessionId) (options : Options) (time : ℕ) (low : (0 < options.interval) ⊎ (options.interval ≤ 0)) (high : (MAX_INTERVAL < options.interval) ⊎ (options.interval ≤ MAX_INTERVAL))
    → start_from session options.port options.interval options.mode options.max_samples time low high ≡ Some (event.Start session options time)
start_is session options time (inl some) (inr high) =
    λ i. Some (event.Start session (record { port = options.port; interval = options.interval; mode = options.mode; max_samples = options.max_samples; low = le_prop (omega (arith, some)) options.low i; high = le_prop high options.high i }) time)
start_is session options time (inl some) (inl over) = absurd (omega (arith, over, options.high))
start_is session options time (inr none) high = absurd (omega (arith, none, options.low))

event_is : (e : CodeEvent) → event_from (event_bare e) ≡ Some e
event_is (event.Create start layout) = refl
event_is (event.Move from to) = refl
event_is (event.NoOpt start reason) = refl
event_is (event.Deopt start reason) = refl
event_is (event.Delete start) = refl
event_is (event.Start session options time) = start_is session options time (cases_lt 0 options.interval) (cases_lt MAX_INTERVAL options.interval)
event_is (event.Stop session time) = refl
event_is (event.Finish time files) = refl

some_same : {A : Type 0} (x y : A) → Some x ≡ Some y → x ≡ y
some_same x y h = cc

event_same : (one other : CodeEvent) → event_bare one ≡ event_bare other → one ≡ other
event_same one other h = some_same one other (sym (event_is one) ∙ ap event_from h ∙ event_is other)

-- the tick of a first line, if it is one
abbrev tick_from : ItemLine → Option TickLine
tick_from (line.Create start) = None
tick_from (line.Unit u) = None
tick_from (line.Slot slot) = None
tick_from (line.Event e) = None
tick_from (line.Tick tick) = Some tick

event_no_tick : (e : CodeEvent) → tick_from (event_bare e).0 ≡ None
event_no_tick (event.Create start layout) = refl
event_no_tick (event.Move from to) = refl
event_no_tick (event.NoOpt start reason) = refl
event_no_tick (event.Deopt start reason) = refl
event_no_tick (event.Delete start) = refl
event_no_tick (event.Start session options time) = refl
event_no_tick (event.Stop session time) = refl
event_no_tick (event.Finish time files) = refl

never_both : {A : Type 0} (m : Option A) (x : A) → m ≡ None → m ≡ Some x → ⊥
never_both m x none some = absurd cc

-- a tick with its stamps, after this many events and ticks
abbrev stamp_line : ℕ → ℕ → TickLine → Item
stamp_line events ticks tick =
    item.Tick (record { order = events; tick_number = suc ticks; time = tick.time; interval = tick.interval; state = tick.state; hit = tick.hit; only = tick.only; frames = tick.frames })

-- items with the same lines are the same but for their stamps
same_items : (events ticks : ℕ) (one other : List Item) → lines_of_items one ≡ lines_of_items other → stamped_behind events ticks one ≡ stamped_behind events ticks other
same_items events ticks [] [] h = refl
same_items events ticks [] (y ∷ ys) h = let none : next_item (lines_of_items (y ∷ ys)) ≡ None = sym (ap next_item h) in absurd (never_both _ _ none (next_is y ys))
same_items events ticks (x ∷ xs) [] h = let none : next_item (lines_of_items (x ∷ xs)) ≡ None = ap next_item h in absurd (never_both _ _ none (next_is x xs))
same_items events ticks (item.Event a ∷ xs) (item.Event b ∷ ys) h =
    let s = some_same _ _ (sym (next_is (item.Event a) xs) ∙ ap next_item h ∙ next_is (item.Event b) ys) in
    let same : a.event ≡ b.event = event_same a.event b.event (ap (λ (z : Bare × List ItemLine). z.0) s) in
    let later = same_items (suc events) ticks xs ys (ap (λ (z : Bare × List ItemLine). z.1) s) in
    ap₂ (λ (e : CodeEvent) (z : List Item). item.Event (record { number = suc events; ticks_before = ticks; event = e }) ∷ z) same later
same_items events ticks (item.Event a ∷ xs) (item.Tick b ∷ ys) h =
    let s = some_same _ _ (sym (next_is (item.Event a) xs) ∙ ap next_item h ∙ next_is (item.Tick b) ys) in
    absurd (never_both _ _ (event_no_tick a.event) (ap (λ (z : Bare × List ItemLine). tick_from z.0.0) s))
same_items events ticks (item.Tick a ∷ xs) (item.Event b ∷ ys) h =
    let s = some_same _ _ (sym (next_is (item.Tick a) xs) ∙ ap next_item h ∙ next_is (item.Event b) ys) in
    absurd (never_both _ _ (event_no_tick b.event) (sym (ap (λ (z : Bare × List ItemLine). tick_from z.0.0) s)))
same_items events ticks (item.Tick a ∷ xs) (item.Tick b ∷ ys) h =
    let s = some_same _ _ (sym (next_is (item.Tick a) xs) ∙ ap next_item h ∙ next_is (item.Tick b) ys) in
    let same : tick_line a ≡ tick_line b = some_same _ _ (ap (λ (z : Bare × List ItemLine). tick_from z.0.0) s) in
    let later = same_items events (suc ticks) xs ys (ap (λ (z : Bare × List ItemLine). z.1) s) in
    ap₂ (λ (t : TickLine) (z : List Item). stamp_line events ticks t ∷ z) same later

-- the lines after the first
abbrev bodies : List TextLine → List ItemLine
bodies [] = []
bodies (Head base ∷ lines) = bodies lines
bodies (Body line ∷ lines) = line ∷ bodies lines

bodies_of : (lines : List ItemLine) → bodies (map (λ line. Body line) lines) ≡ lines
bodies_of [] = refl
bodies_of (line ∷ lines) = ap (λ (z : List ItemLine). line ∷ z) (bodies_of lines)

abbrev base_of : List TextLine → Option ℕ
base_of [] = None
base_of (Head base ∷ lines) = Some base
base_of (Body line ∷ lines) = None

-- stamped lists with the same lines are equal
pub lists_are_one : (one other : ItemList) → IsStamped one.items → IsStamped other.items → item_lines one ≡ item_lines other → one ≡ other
lists_are_one one other stamps others h =
    let base : one.base ≡ other.base = some_same _ _ (ap base_of h) in
    let lines : lines_of_items one.items ≡ lines_of_items other.items = sym (bodies_of (lines_of_items one.items)) ∙ ap bodies h ∙ bodies_of (lines_of_items other.items) in
    let items : one.items ≡ other.items = stamped_are_one one.items other.items stamps others (same_items 0 0 one.items other.items lines) in
    λ i. record { base = base i; items = items i }
