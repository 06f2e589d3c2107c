-- The canonical text of an item list, put together from its parts.
use Rattle.std.proofs.Common.{◌≡◌, ◌∙◌, ℕ, List, [], ◌∷◌, ◌++◌, map, refl, sym, ap, ap₂, append_assoc, decimal, codes}
use Rattle.std.proofs.lemmas.Grind.{flat_map-append}
use Rattle.prof_lines.specs.Canonical.{further, line_of, text_of}
use Rattle.code_event.specs.declared.event.CodeEvent.TheVariants as event
use Rattle.code_event.specs.declared.layout.Slot.{Slot}
use Rattle.code_event.specs.declared.layout.Unit.{Unit as CodeUnit}
use Rattle.code_event.specs.declared.tick.Item.{Item}
use Rattle.code_event.specs.declared.tick.Tick.{Tick}
use Rattle.code_event.specs.Parts.{LayoutParts}
use Rattle.item_text.specs.declared.item_line.ItemLine.{ItemLine}
use Rattle.item_text.specs.declared.item_line.ItemLine.TheVariants as line
use Rattle.item_text.specs.declared.item_line.TextLine.TheVariants.{Head, Body}
use Rattle.item_text.specs.declared.items.ItemList.{ItemList}
use Rattle.item_text.specs.ItemLine.{item_words, state_word, hit_word, only_word}
use Rattle.item_text.specs.Items.{tick_line, lines_of_item, lines_of_items, items_text}
use Rattle.item_text.specs.ItemSpelling.{line_text, lines_text, units_text, slots_text, numbers_text, event_text, item_text, body_text}

units_are : (units : List CodeUnit) → lines_text (map (λ u. line.Unit u) units) ≡ units_text units
units_are [] = refl
units_are (u ∷ units) = ap (λ (z : List ℕ). line_text (line.Unit u) ++ z) (units_are units)

slots_are : (slots : List Slot) → lines_text (map (λ s. line.Slot s) slots) ≡ slots_text slots
slots_are [] = refl
slots_are (slot ∷ slots) = ap (λ (z : List ℕ). line_text (line.Slot slot) ++ z) (slots_are slots)

create_is : (start : ℕ) (layout : LayoutParts) → event_text (event.Create start layout) ≡ line_text (line.Create start) ++ (units_text layout.units ++ slots_text layout.slots)
create_is start layout =
    ap (λ (z : List ℕ). line_text (line.Create start) ++ z)
    (flat_map-append line_text (map (λ u. line.Unit u) layout.units) (map (λ s. line.Slot s) layout.slots) ∙ ap₂ (λ (x y : List ℕ). x ++ y) (units_are layout.units) (slots_are layout.slots))

-- the lines of a code object, written one after another
pub create_put : (before begun with_units whole : List ℕ) (start : ℕ) (layout : LayoutParts) → begun ≡ before ++ line_text (line.Create start) → with_units ≡ begun ++ units_text layout.units → whole ≡ with_units ++ slots_text layout.slots
    → whole ≡ before ++ event_text (event.Create start layout)
create_put before begun with_units whole start layout a b c =
    let units = units_text layout.units in
    let slots = slots_text layout.slots in
    let first = line_text (line.Create start) in
    c ∙ ap (λ (z : List ℕ). z ++ slots) (b ∙ ap (λ (z : List ℕ). z ++ units) a)
    ∙ ap (λ (z : List ℕ). z ++ slots) (append_assoc before first units) ∙ append_assoc before (first ++ units) slots
    ∙ ap (λ (z : List ℕ). before ++ z) (append_assoc first units slots ∙ sym (create_is start layout))

numbers_are : (numbers : List ℕ) → further (map decimal numbers) ≡ numbers_text numbers
numbers_are [] = refl
numbers_are (n ∷ numbers) = ap (λ (z : List ℕ). 32 ∷ (decimal n ++ z)) (numbers_are numbers)

further-append : (words others : List (List ℕ)) → further (words ++ others) ≡ further words ++ further others
further-append [] others = refl
further-append (word ∷ words) others = ap (λ (z : List ℕ). 32 ∷ z) (ap (λ (z : List ℕ). word ++ z) (further-append words others) ∙ sym (append_assoc word (further words) (further others)))

-- the words of a tick before its addresses
abbrev moment : Tick → List (List ℕ)
moment tick = decimal tick.time ∷ decimal tick.interval ∷ state_word tick.state ∷ hit_word tick.hit ∷ only_word tick.only ∷ []

-- the line of a tick, written one part after another
pub tick_put : (before named with_moment with_frames whole : List ℕ) (tick : Tick) → named ≡ before ++ codes "tick" → with_moment ≡ named ++ further (moment tick) → with_frames ≡ with_moment ++ numbers_text tick.frames → whole ≡ with_frames ++ 10 ∷ []
    → whole ≡ before ++ line_text (line.Tick (tick_line tick))
tick_put before named with_moment with_frames whole tick a b c d =
    let name = codes "tick" in
    let words = further (moment tick) in
    let frames = numbers_text tick.frames in
    let all : further (moment tick ++ map decimal tick.frames) ≡ words ++ frames = further-append (moment tick) (map decimal tick.frames) ∙ ap (λ (z : List ℕ). words ++ z) (numbers_are tick.frames) in
    d ∙ ap (λ (z : List ℕ). z ++ 10 ∷ []) (c ∙ ap (λ (z : List ℕ). z ++ frames) (b ∙ ap (λ (z : List ℕ). z ++ words) a))
    ∙ ap (λ (z : List ℕ). z ++ 10 ∷ []) (ap (λ (z : List ℕ). z ++ frames) (append_assoc before name words) ∙ append_assoc before (name ++ words) frames)
    ∙ append_assoc before ((name ++ words) ++ frames) (10 ∷ [])
    ∙ ap (λ (z : List ℕ). before ++ (z ++ 10 ∷ [])) (append_assoc name words frames ∙ ap (λ (z : List ℕ). name ++ z) (sym all))

lines_are : (lines : List ItemLine) → text_of item_words (map (λ line. Body line) lines) ≡ lines_text lines
lines_are [] = refl
lines_are (line ∷ lines) = ap (λ (z : List ℕ). line_text line ++ z) (lines_are lines)

items_are : (items : List Item) → lines_text (lines_of_items items) ≡ body_text items
items_are [] = refl
items_are (first ∷ items) = flat_map-append line_text (lines_of_item first) (lines_of_items items) ∙ ap (λ (z : List ℕ). item_text first ++ z) (items_are items)

-- the canonical text of a list is its first line and then the lines of its items
pub text_is : (list : ItemList) → items_text list ≡ line_of (item_words (Head list.base)) ++ body_text list.items
text_is list = ap (λ (z : List ℕ). line_of (item_words (Head list.base)) ++ z) (lines_are (lines_of_items list.items) ∙ items_are list.items)

-- the whole text, written one part after another
pub whole_put : (list : ItemList) (items : List Item) (start head whole : List ℕ) → start ≡ [] → head ≡ start ++ line_of (item_words (Head list.base)) → items ≡ list.items → whole ≡ head ++ body_text items → whole ≡ items_text list
whole_put list items start head whole none a same b =
    b ∙ ap₂ (λ (x : List ℕ) (y : List Item). x ++ body_text y) (a ∙ ap (λ (z : List ℕ). z ++ line_of (item_words (Head list.base))) none) same ∙ sym (text_is list)
