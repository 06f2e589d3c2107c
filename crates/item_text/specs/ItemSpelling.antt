-- The canonical text of an item list, part by part, as it is written.
use Rattle.std.specs.Prelude.{ℕ, List, ◌∷◌, flat_map, decimal}
use Rattle.prof_lines.specs.Canonical.{line_of}
use Rattle.code_event.specs.declared.event.CodeEvent.{CodeEvent}
use Rattle.code_event.specs.declared.layout.Slot.{Slot}
use Rattle.code_event.specs.declared.layout.Unit.{Unit as CodeUnit}
use Rattle.code_event.specs.declared.tick.Item.{Item}
use Rattle.item_text.specs.declared.item_line.ItemLine.{ItemLine}
use Rattle.item_text.specs.declared.item_line.ItemLine.TheVariants as line
use Rattle.item_text.specs.declared.item_line.TextLine.TheVariants.{Body}
use Rattle.item_text.specs.ItemLine.{item_words}
use Rattle.item_text.specs.Items.{event_lines, lines_of_item}

-- the canonical line
abbrev pub line_text : ItemLine → List ℕ
line_text line = line_of (item_words (Body line))

-- these canonical lines
abbrev pub lines_text : List ItemLine → List ℕ
lines_text lines = flat_map line_text lines

abbrev pub units_text : List CodeUnit → List ℕ
units_text units = flat_map (λ u. line_text (line.Unit u)) units

abbrev pub slots_text : List Slot → List ℕ
slots_text slots = flat_map (λ slot. line_text (line.Slot slot)) slots

-- each number after a space
abbrev pub numbers_text : List ℕ → List ℕ
numbers_text numbers = flat_map (λ n. 32 ∷ decimal n) numbers

abbrev pub event_text : CodeEvent → List ℕ
event_text event = lines_text (event_lines event)

abbrev pub item_text : Item → List ℕ
item_text item = lines_text (lines_of_item item)

abbrev pub body_text : List Item → List ℕ
body_text items = flat_map item_text items
