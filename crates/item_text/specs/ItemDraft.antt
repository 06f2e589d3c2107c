-- What is kept of an item list while its text is read.
use Rattle.std.specs.Prelude.{◌≡◌, ℕ, suc, ◌<◌, ◌≤◌, List, [], ◌∷◌, ◌++◌, length, get_or, Option, Some, None}
use Rattle.std.specs.List.{AllByRecursion}
use Rattle.code_event.specs.ItemList.{ListSoFar, IsStamped}
use Rattle.code_event.specs.Layout.{HaveParents}
use Rattle.code_event.specs.declared.layout.Unit.{Unit as CodeUnit}
use Rattle.code_event.specs.declared.layout.TheConstants.Layout.{MAX_UNITS, MAX_SLOTS, MAX_ABOVE}
use Rattle.code_event.specs.declared.tick.Item.{Item}
use Rattle.code_event.specs.declared.tick.Item.TheVariants as item
use Rattle.item_text.specs.declared.item_line.ItemLine.{ItemLine}
use Rattle.item_text.specs.ItemRules.{BegunCode, Course, is_among, units_above}
use Rattle.item_text.specs.Items.{code_lines, lines_of_items}

-- the same time, the same sessions that run, and as a set the same sessions that were started
pub record Agree (one other : ListSoFar) : Type 0 where
  pub time : one.time ≡ other.time
  pub running : one.running ≡ other.running
  pub started : (n : ℕ) → is_among one.started n ≡ is_among other.started n

-- what is kept agrees with what lines say
pub record Reflects (kept course : Course) : Type 0 where
  pub list : Agree kept.list course.list
  pub finished : kept.finished ≡ course.finished
  pub begun : kept.begun ≡ course.begun

-- the lines of a code object that was begun, if any
abbrev pub begun_lines : Option BegunCode → List ItemLine
begun_lines None = []
begun_lines (Some code) = code_lines code

-- the lines of items, and of a code object that was begun after them
abbrev pub draft_lines : List Item → Option BegunCode → List ItemLine
draft_lines items begun = lines_of_items items ++ begun_lines begun

-- how many of these items are ticks
abbrev pub ticks_in : List Item → ℕ
ticks_in [] = 0
ticks_in (item.Event e ∷ items) = ticks_in items
ticks_in (item.Tick t ∷ items) = suc (ticks_in items)

-- stamped items, of which this many are ticks
pub record AreGathered (items : List Item) (ticks : ℕ) : Type 0 where
  pub stamped : IsStamped items
  pub count : ticks ≡ ticks_in items
  pub bound : ticks ≤ length items

-- how many units are above each of these, which is at most four
pub record AreAbove (units : List CodeUnit) (above : List ℕ) : Type 0 where
  pub same : length above ≡ length units
  pub each : (i : ℕ) → i < length units → get_or above i 0 ≡ units_above units i
  pub few : (i : ℕ) → i < length units → get_or above i 0 ≤ MAX_ABOVE

-- a code object that was begun keeps the rules of a layout, but that it may have no units or slots yet
pub record IsBegun (code : BegunCode) : Type 0 where
  pub few_units : length code.units ≤ MAX_UNITS
  pub few_slots : length code.slots ≤ MAX_SLOTS
  pub parents : HaveParents 0 code.units
  pub slots_in_units : AllByRecursion (λ slot. slot.unit < length code.units) code.slots
