-- Stamped lists: what comes behind a front, and what is next of it.
use Rattle.std.proofs.Common.{◌≡◌, ℕ, suc, ◌+◌, ◌<◌, ◌≤◌, List, [], ◌∷◌, ◌++◌, refl, ap, sym, subst, ⊎_elim, arith}
use Rattle.std.specs.List.{AllByRecursion}
use Rattle.code_event.specs.ItemList.{IsStampedBehind, IsStamped}
use Rattle.code_event.specs.declared.event.CodeEvent.{CodeEvent}
use Rattle.code_event.specs.declared.event.EventRecord.{EventRecord}
use Rattle.code_event.specs.declared.tick.Item.{Item}
use Rattle.code_event.specs.declared.tick.Item.TheVariants as item
use Rattle.code_event.specs.declared.tick.Tick.{Tick}
use Rattle.pipe_core.proofs.Joined.{joined_all}
use Rattle.pipe_core.specs.CoreOrder.{IsJoined, AreRising}
use Rattle.pipe_core.specs.Stamps.{events_of, ticks_of, event_count, tick_count, event_after, tick_after}

pub event_count-append : (xs ys : List Item) → event_count (xs ++ ys) ≡ event_count xs + event_count ys
event_count-append [] ys = omega arith
event_count-append (item.Event e ∷ xs) ys = let had = event_count-append xs ys in omega arith
event_count-append (item.Tick t ∷ xs) ys = event_count-append xs ys

pub tick_count-append : (xs ys : List Item) → tick_count (xs ++ ys) ≡ tick_count xs + tick_count ys
tick_count-append [] ys = omega arith
tick_count-append (item.Event e ∷ xs) ys = tick_count-append xs ys
tick_count-append (item.Tick t ∷ xs) ys = let had = tick_count-append xs ys in omega arith

pub events_of-append : (xs ys : List Item) → events_of (xs ++ ys) ≡ events_of xs ++ events_of ys
events_of-append [] ys = refl
events_of-append (item.Event e ∷ xs) ys = ap (λ (es : List EventRecord). e ∷ es) (events_of-append xs ys)
events_of-append (item.Tick t ∷ xs) ys = events_of-append xs ys

pub ticks_of-append : (xs ys : List Item) → ticks_of (xs ++ ys) ≡ ticks_of xs ++ ticks_of ys
ticks_of-append [] ys = refl
ticks_of-append (item.Event e ∷ xs) ys = ticks_of-append xs ys
ticks_of-append (item.Tick t ∷ xs) ys = ap (λ (ts : List Tick). t ∷ ts) (ticks_of-append xs ys)

-- a stamped list is stamped in front of what is stamped behind it
pub behind_joins : (events ticks : ℕ) (xs ys : List Item) → IsStampedBehind events ticks xs → IsStampedBehind (events + event_count xs) (ticks + tick_count xs) ys → IsStampedBehind events ticks (xs ++ ys)
behind_joins events ticks [] ys front back =
    let e : events + 0 ≡ events = omega arith in
    let t : ticks + 0 ≡ ticks = omega arith in
    subst (λ n. IsStampedBehind events n ys) t (subst (λ n. IsStampedBehind n (ticks + 0) ys) e back)
behind_joins events ticks (item.Event x ∷ xs) ys front back =
    let e : events + suc (event_count xs) ≡ suc events + event_count xs = omega arith in
    (front.0, front.1, behind_joins (suc events) ticks xs ys front.2 (subst (λ n. IsStampedBehind n (ticks + tick_count xs) ys) e back))
behind_joins events ticks (item.Tick x ∷ xs) ys front back =
    let t : ticks + suc (tick_count xs) ≡ suc ticks + tick_count xs = omega arith in
    (front.0, front.1, behind_joins events (suc ticks) xs ys front.2 (subst (λ n. IsStampedBehind (events + event_count xs) n ys) t back))

pub behind_front : (events ticks : ℕ) (xs ys : List Item) → IsStampedBehind events ticks (xs ++ ys) → IsStampedBehind events ticks xs
behind_front events ticks [] ys is = tt
behind_front events ticks (item.Event x ∷ xs) ys is = (is.0, is.1, behind_front (suc events) ticks xs ys is.2)
behind_front events ticks (item.Tick x ∷ xs) ys is = (is.0, is.1, behind_front events (suc ticks) xs ys is.2)

pub behind_back : (events ticks : ℕ) (xs ys : List Item) → IsStampedBehind events ticks (xs ++ ys) → IsStampedBehind (events + event_count xs) (ticks + tick_count xs) ys
behind_back events ticks [] ys is =
    let e : events ≡ events + 0 = omega arith in
    let t : ticks ≡ ticks + 0 = omega arith in
    subst (λ n. IsStampedBehind (events + 0) n ys) t (subst (λ n. IsStampedBehind n ticks ys) e is)
behind_back events ticks (item.Event x ∷ xs) ys is =
    let e : suc events + event_count xs ≡ events + suc (event_count xs) = omega arith in
    subst (λ n. IsStampedBehind n (ticks + tick_count xs) ys) e (behind_back (suc events) ticks xs ys is.2)
behind_back events ticks (item.Tick x ∷ xs) ys is =
    let t : suc ticks + tick_count xs ≡ ticks + suc (tick_count xs) = omega arith in
    subst (λ n. IsStampedBehind (events + event_count xs) n ys) t (behind_back events (suc ticks) xs ys is.2)

-- what is stamped behind a list may stand there
pub stamped_event_more : (items : List Item) (event : CodeEvent) → IsStamped items → IsStamped (items ++ item.Event (event_after items event) ∷ [])
stamped_event_more items event is =
    behind_joins 0 0 items (item.Event (event_after items event) ∷ []) is
    (let e : suc (event_count items) ≡ suc (0 + event_count items) = omega arith in
    let t : tick_count items ≡ 0 + tick_count items = omega arith in
    (e, t, tt))

pub stamped_tick_more : (items : List Item) (tick : Tick) → IsStamped items → IsStamped (items ++ item.Tick (tick_after items tick) ∷ [])
stamped_tick_more items tick is =
    behind_joins 0 0 items (item.Tick (tick_after items tick) ∷ []) is
    (let t : suc (tick_count items) ≡ suc (0 + tick_count items) = omega arith in
    let e : event_count items ≡ 0 + event_count items = omega arith in
    (t, e, tt))

-- each tick behind so many events and ticks has at least that order, and a greater number
ticks_later : (events ticks : ℕ) (items : List Item) → IsStampedBehind events ticks items → AllByRecursion (λ t. (events ≤ t.order) × (ticks < t.tick_number)) (ticks_of items)
ticks_later events ticks items is = later events ticks events ticks items (omega arith) (omega arith) is where
  later : (low few events ticks : ℕ) (items : List Item) → low ≤ events → few ≤ ticks → IsStampedBehind events ticks items → AllByRecursion (λ t. (low ≤ t.order) × (few < t.tick_number)) (ticks_of items)
  later low few events ticks [] lows fews is = tt
  later low few events ticks (item.Event e ∷ items) lows fews is = later low few (suc events) ticks items (omega arith) fews is.2
  later low few events ticks (item.Tick t ∷ items) lows fews is =
      let number = is.0 in
      let order = is.1 in
      ((omega arith, omega arith), later low few events (suc ticks) items lows (omega arith) is.2)

-- each event behind so many ticks says at least that
events_later : (few events ticks : ℕ) (items : List Item) → few ≤ ticks → IsStampedBehind events ticks items → AllByRecursion (λ e. few ≤ e.ticks_before) (events_of items)
events_later few events ticks [] fews is = tt
events_later few events ticks (item.Event e ∷ items) fews is = let before = is.1 in (omega arith, events_later few (suc events) ticks items fews is.2)
events_later few events ticks (item.Tick t ∷ items) fews is = events_later few events (suc ticks) items (omega arith) is.2

pub rest_rising : (events ticks : ℕ) (items : List Item) → IsStampedBehind events ticks items → AreRising ticks (ticks_of items)
rest_rising events ticks [] is = tt
rest_rising events ticks (item.Event e ∷ items) is = rest_rising (suc events) ticks items is.2
rest_rising events ticks (item.Tick t ∷ items) is =
    let number : t.tick_number ≡ suc ticks = is.0 in
    (omega arith, subst (λ n. AreRising n (ticks_of items)) (sym number) (rest_rising events (suc ticks) items is.2))

-- the rest begins with this event
abbrev pub BeginsWithEvent : EventRecord → List EventRecord → List Item → Type 0
BeginsWithEvent e events rest = (others : List Item) × (rest ≡ item.Event e ∷ others) × (events ≡ events_of others)

-- the first event that waits is the first of the rest where it is next
pub next_event : (applied ticked : ℕ) (e : EventRecord) (events : List EventRecord) (rest : List Item)
    → IsStampedBehind applied ticked rest → e ∷ events ≡ events_of rest → e.ticks_before ≡ ticked → BeginsWithEvent e events rest
next_event applied ticked e events [] is same before = absurd (cc same)
next_event applied ticked e events (item.Event first ∷ others) is same before =
    let head : first ≡ e = cc same in
    let tail : events ≡ events_of others = cc same in
    (others, ap (λ (x : EventRecord). item.Event x ∷ others) head, tail)
next_event applied ticked e events (item.Tick first ∷ others) is same before =
    let later : AllByRecursion (λ x. suc ticked ≤ x.ticks_before) (e ∷ events) =
    subst (AllByRecursion (λ x. suc ticked ≤ x.ticks_before)) (sym same) (events_later (suc ticked) applied (suc ticked) others (omega arith) is.2) in
    let most = later.0 in
    absurd (omega arith)

-- the rest begins with this tick
abbrev pub BeginsWithTick : Tick → List Tick → List Tick → List Item → Type 0
BeginsWithTick t ticks others rest = (behind : List Item) × (rest ≡ item.Tick t ∷ behind) × IsJoined ticks others (ticks_of behind)

-- the first tick of one of the two queues is the first of the rest where it is next
pub next_tick : (applied ticked : ℕ) (t : Tick) (ticks others : List Tick) (rest : List Item)
    → IsStampedBehind applied ticked rest → IsJoined (t ∷ ticks) others (ticks_of rest) → t.order ≡ applied → t.tick_number ≡ suc ticked → BeginsWithTick t ticks others rest
next_tick applied ticked t ticks others [] is joined order number = absurd (cc joined.0)
next_tick applied ticked t ticks others (item.Event first ∷ behind) is joined order number =
    let later = joined_all (λ x. (suc applied ≤ x.order) × (ticked < x.tick_number)) (t ∷ ticks) others (ticks_of behind) joined (ticks_later (suc applied) ticked behind is.2) in
    let most = later.0.0 in
    absurd (omega arith)
next_tick applied ticked t ticks others (item.Tick first ∷ behind) is joined order number =
    ⊎_elim
    (λ (l : (more : List Tick) × (t ∷ ticks ≡ first ∷ more) × IsJoined more others (ticks_of behind)).
    let e = l.1 in
    let head : first ≡ t = cc in
    let tail : l.0 ≡ ticks = cc in
    (behind, ap (λ (x : Tick). item.Tick x ∷ behind) head, subst (λ xs. IsJoined xs others (ticks_of behind)) tail l.2))
    (λ (r : (more : List Tick) × (others ≡ first ∷ more) × IsJoined (t ∷ ticks) more (ticks_of behind)).
    let later = joined_all (λ x. (applied ≤ x.order) × (suc ticked < x.tick_number)) (t ∷ ticks) r.0 (ticks_of behind) r.2 (ticks_later applied (suc ticked) behind is.2) in
    let most = later.0.1 in
    absurd (omega arith)) joined
