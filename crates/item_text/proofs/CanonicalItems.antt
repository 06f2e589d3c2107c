-- The lines of the canonical text of an item list spell it.
use Rattle.std.proofs.Common.{◌≡◌, ℕ, ◌^◌, ◌<◌, List, [], ◌∷◌, map, Bool, true, false, Option, Some, None, refl, arith, codes, decimal, lit<}
use Rattle.std.specs.List.{AllByRecursion}
use Rattle.prof_lines.specs.Words.{InRange}
use Rattle.prof_lines.specs.Canonical.{begins_line, IsLine, IsOneLine}
use Rattle.prof_lines.proofs.Canonical.{canonical_spells}
use Rattle.prof_lines.proofs.CanonicalLines.{is_line, word_one_line, quoted_one_line}
use Rattle.prof_lines.proofs.Numbers.{decimal_word}
use Rattle.code_event.specs.declared.layout.Site.{Site}
use Rattle.item_text.specs.declared.item_line.LineEvent.{LineEvent}
use Rattle.item_text.specs.declared.item_line.LineEvent.TheVariants.{Move, NoOpt, Deopt, Delete, Start, Stop, Finish}
use Rattle.item_text.specs.declared.item_line.ItemLine.{ItemLine}
use Rattle.item_text.specs.declared.item_line.ItemLine.TheVariants as line
use Rattle.item_text.specs.declared.item_line.TextLine.{TextLine}
use Rattle.item_text.specs.declared.item_line.TextLine.TheVariants.{Head, Body}
use Rattle.item_text.specs.declared.items.ItemList.{ItemList}
use Rattle.item_text.specs.ItemLine.{MAX_ADDRESS, parent_words, event_name, event_operands, item_name, item_operands, item_words, IsParent, IsEvent, IsItemLine}
use Rattle.item_text.specs.ItemRules.{course_of, is_first, fault_after}
use Rattle.item_text.specs.Items.{Fits, item_lines, items_text, Spells, IsItemList}
use Rattle.record_text.proofs.RecordWords.{mode_is_word, bound_is_word}
use Rattle.item_text.proofs.ItemWords.{state_is_word, hit_is_word, files_is_word, only_is_word}

-- these words have no line ends
abbrev AreOneLine : List (List ℕ) → Type 0
AreOneLine words = AllByRecursion IsOneLine words

number_one : (least most n : ℕ) → most < 2 ^ 64 → InRange least most n → IsOneLine (decimal n)
number_one least most n small fits = word_one_line (decimal n) (decimal_word n (omega (arith, fits.1, small)))

numbers_one : (least most : ℕ) (numbers : List ℕ) → most < 2 ^ 64 → AllByRecursion (InRange least most) numbers → AreOneLine (map decimal numbers)
numbers_one least most [] small fits = tt
numbers_one least most (n ∷ numbers) small fits = (number_one least most n small fits.0, numbers_one least most numbers small fits.1)

parent_one : (first : Bool) (parent : Option Site) → IsParent first parent → AreOneLine (parent_words parent)
parent_one true None fits = (refl, (refl, (refl, tt)))
parent_one true (Some site) fits = absurd fits
parent_one false None fits = absurd fits
parent_one false (Some site) fits = (number_one _ _ site.unit (lit< tt) fits.0, (number_one _ _ site.index (lit< tt) fits.1, (number_one _ _ site.line (lit< tt) fits.2, tt)))

event_one : (event : LineEvent) → IsEvent event → AreOneLine (event_operands event)
event_one (Move from to) fits = (number_one _ _ from (lit< tt) fits.0, (number_one _ _ to (lit< tt) fits.1, tt))
event_one (NoOpt start reason) fits = (number_one _ _ start (lit< tt) fits.0, (quoted_one_line reason fits.1, tt))
event_one (Deopt start reason) fits = (number_one _ _ start (lit< tt) fits.0, (quoted_one_line reason fits.1, tt))
event_one (Delete start) fits = (number_one _ _ start (lit< tt) fits, tt)
event_one (Start session port interval mode max time) fits =
    (number_one _ _ session.0 (lit< tt) fits.0, (number_one _ _ port (lit< tt) fits.1, (number_one _ _ interval (lit< tt) fits.2, (word_one_line _ (mode_is_word mode), (word_one_line _ (bound_is_word 0 max fits.3), (number_one _ _ time (lit< tt) fits.4, tt))))))
event_one (Stop session time) fits = (number_one _ _ session.0 (lit< tt) fits.0, (number_one _ _ time (lit< tt) fits.1, tt))
event_one (Finish time files) fits = (number_one _ _ time (lit< tt) fits, (word_one_line _ (files_is_word files), tt))

item_one : (first : Bool) (line : ItemLine) → IsItemLine first line → AreOneLine (item_operands line)
item_one first (line.Create start) fits = (number_one _ _ start (lit< tt) fits, tt)
item_one first (line.Unit u) fits = (
  number_one _ _ u.func.0 (lit< tt) fits.0,
  (
    quoted_one_line u.entry.name fits.1.0,
    (
      quoted_one_line u.entry.url fits.1.1,
      (number_one _ _ u.entry.script (lit< tt) fits.1.2, (number_one _ _ u.entry.line (lit< tt) fits.1.3, (number_one _ _ u.entry.column (lit< tt) fits.1.4, parent_one first u.parent fits.2))),
    ),
  ),
)
item_one first (line.Slot slot) fits = (number_one _ _ slot.unit (lit< tt) fits.0, (number_one _ _ slot.index (lit< tt) fits.1, (number_one _ _ slot.line (lit< tt) fits.2, tt)))
item_one first (line.Event event) fits = event_one event fits
item_one first (line.Tick tick) fits = (
  number_one _ _ tick.time (lit< tt) fits.0,
  (
    number_one _ _ tick.interval (lit< tt) fits.1,
    (
      word_one_line _ (state_is_word tick.state),
      (
        word_one_line _ (hit_is_word tick.hit),
        (word_one_line _ (only_is_word tick.only fits.2), numbers_one 0 MAX_ADDRESS tick.frames (lit< tt) fits.3.1),
      ),
    ),
  ),
)

event_name_begins : (event : LineEvent) → (begins_line (event_name event) ≡ true) × IsOneLine (event_name event)
event_name_begins (Move from to) = (refl, refl)
event_name_begins (NoOpt start reason) = (refl, refl)
event_name_begins (Deopt start reason) = (refl, refl)
event_name_begins (Delete start) = (refl, refl)
event_name_begins (Start session port interval mode max time) = (refl, refl)
event_name_begins (Stop session time) = (refl, refl)
event_name_begins (Finish time files) = (refl, refl)

item_name_begins : (line : ItemLine) → (begins_line (item_name line) ≡ true) × IsOneLine (item_name line)
item_name_begins (line.Create start) = (refl, refl)
item_name_begins (line.Unit u) = (refl, refl)
item_name_begins (line.Slot slot) = (refl, refl)
item_name_begins (line.Event event) = event_name_begins event
item_name_begins (line.Tick tick) = (refl, refl)

line_is_line : (before : List TextLine) (value : TextLine) → Fits before value → IsLine (item_words value)
line_is_line [] (Head base) fits = is_line (codes "items") (codes "1" ∷ decimal base ∷ []) refl refl (refl, (number_one _ _ base (lit< tt) fits, tt))
line_is_line [] (Body line) fits = absurd fits
line_is_line (first ∷ lines) (Head base) fits = absurd fits
line_is_line (first ∷ lines) (Body line) fits =
    let name = item_name_begins line in
    is_line (item_name line) (item_operands line) name.0 name.1 (item_one (is_first (course_of (first ∷ lines)).begun) line fits)

-- the lines of the canonical text of a list spell it
pub canonical_items : (list : ItemList) → IsItemList list → Spells (items_text list) list
canonical_items list is = (canonical_spells Fits item_words fault_after line_is_line (item_lines list) is.rules.each).1
