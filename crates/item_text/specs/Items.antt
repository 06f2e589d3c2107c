-- Item lists and their text.
use Rattle.std.specs.Prelude.{◌≡◌, ℕ, List, [], ◌∷◌, ◌++◌, map, flat_map, true, if◌then◌else◌, Result, Ok, Err}
use Rattle.prof_base.specs.declared.interval.TheConstants.{MAX_INTERVAL}
use Rattle.prof_lines.specs.declared.fault.Cause.{Cause}
use Rattle.prof_lines.specs.declared.fault.Cause.TheVariants as causes
use Rattle.prof_lines.specs.Answers.{◌>>=◌}
use Rattle.prof_lines.specs.Lines.{counted}
use Rattle.prof_lines.specs.Words.{InRange}
use Rattle.prof_lines.specs.Folds.{placed, read_lines, read_text, IsTextFault}
use Rattle.prof_lines.specs.Canonical.{text_of}
use Rattle.prof_lines.specs.Values.{next_value, Keeps, EachIsSpelled}
use Rattle.code_event.specs.ItemList.{IsStamped}
use Rattle.code_event.specs.declared.event.CodeEvent.{CodeEvent}
use Rattle.code_event.specs.declared.event.CodeEvent.TheVariants as event
use Rattle.code_event.specs.declared.tick.Item.{Item}
use Rattle.code_event.specs.declared.tick.Item.TheVariants as item
use Rattle.code_event.specs.declared.tick.Tick.{Tick}
use Rattle.record_text.specs.declared.rule.Rule.{Rule}
use Rattle.record_text.specs.declared.rule.Rule.TheVariants as rule
use Rattle.record_text.specs.declared.refused.LineCause.{LineCause}
use Rattle.record_text.specs.declared.refused.ReadRefused.{ReadRefused}
use Rattle.record_text.specs.declared.refused.ReadRefused.TheVariants as refused
use Rattle.record_text.specs.Refusals.{line_cause}
use Rattle.item_text.specs.declared.item_line.LineEvent.TheVariants.{Move, NoOpt, Deopt, Delete, Start, Stop, Finish}
use Rattle.item_text.specs.declared.item_line.ItemLine.{ItemLine}
use Rattle.item_text.specs.declared.item_line.ItemLine.TheVariants as line
use Rattle.item_text.specs.declared.item_line.TickLine.{TickLine}
use Rattle.item_text.specs.declared.item_line.TextLine.{TextLine}
use Rattle.item_text.specs.declared.item_line.TextLine.TheVariants.{Head, Body}
use Rattle.item_text.specs.declared.items.ItemList.{ItemList}
use Rattle.item_text.specs.ItemLine.{item_words, IsItemLine}
use Rattle.item_text.specs.ItemForms.{head_at, item_at}
use Rattle.item_text.specs.ItemRules.{BegunCode, course_of, is_first, may_end, fault_after}

-- the lines of a code object
abbrev pub code_lines : BegunCode → List ItemLine
code_lines code = line.Create code.start ∷ (map (λ u. line.Unit u) code.units ++ map (λ slot. line.Slot slot) code.slots)

-- the lines of an event
abbrev pub event_lines : CodeEvent → List ItemLine
event_lines (event.Create start layout) = code_lines (record { start = start; units = layout.units; slots = layout.slots })
event_lines (event.Move from to) = line.Event (Move from to) ∷ []
event_lines (event.NoOpt start reason) = line.Event (NoOpt start reason) ∷ []
event_lines (event.Deopt start reason) = line.Event (Deopt start reason) ∷ []
event_lines (event.Delete start) = line.Event (Delete start) ∷ []
event_lines (event.Start session options time) = line.Event (Start session options.port options.interval options.mode options.max_samples time) ∷ []
event_lines (event.Stop session time) = line.Event (Stop session time) ∷ []
event_lines (event.Finish time files) = line.Event (Finish time files) ∷ []

-- a tick without its stamps
abbrev pub tick_line : Tick → TickLine
tick_line tick = record { time = tick.time; interval = tick.interval; state = tick.state; hit = tick.hit; only = tick.only; frames = tick.frames }

-- the lines of an item
abbrev pub lines_of_item : Item → List ItemLine
lines_of_item (item.Event e) = event_lines e.event
lines_of_item (item.Tick tick) = line.Tick (tick_line tick) ∷ []

-- the lines of items
abbrev pub lines_of_items : List Item → List ItemLine
lines_of_items items = flat_map lines_of_item items

-- the first line and those after it
abbrev pub with_head : ℕ → List ItemLine → List TextLine
with_head base lines = Head base ∷ map (λ line. Body line) lines

-- the lines of an item list
abbrev pub item_lines : ItemList → List TextLine
item_lines list = with_head list.base (lines_of_items list.items)

-- a line that may come after these: the first line, and then others
abbrev pub Fits : List TextLine → TextLine → Type 0
Fits [] (Head base) = InRange 1 MAX_INTERVAL base
Fits [] (Body line) = ⊥
Fits (first ∷ lines) (Head base) = ⊥
Fits (first ∷ lines) (Body line) = IsItemLine (is_first (course_of (first ∷ lines)).begun) line

-- what is read of a line after these
abbrev pub line_after : List TextLine → List ℕ → Result TextLine (Cause Rule)
line_after [] bytes = head_at bytes >>= λ base. Ok (Head base)
line_after (first ∷ lines) bytes = item_at (is_first (course_of (first ∷ lines)).begun) bytes >>= λ line. Ok (Body line)

-- the lines that were read, with one more
abbrev pub items_next : List TextLine → List ℕ → Result (List TextLine) (Cause Rule)
items_next before bytes = next_value line_after fault_after before bytes

-- the end of a text: there is a first line, and the last code object may end
abbrev pub items_end : List TextLine → Result (List TextLine) (Cause Rule)
items_end [] = Err causes.Word
items_end (first ∷ lines) = if may_end (course_of (first ∷ lines)).begun then Ok (first ∷ lines) else Err (causes.Own rule.Order)

-- the lines that are read of a text, or its first fault
abbrev pub lines_read : List ℕ → Result (List TextLine) (ℕ × Cause Rule)
lines_read text = read_text items_next items_end [] text

-- what is read of the lines that are left, after these, where the number after the last line is this one
abbrev pub rest_of : List TextLine → List (ℕ × List ℕ) → ℕ → Result (List TextLine) (ℕ × Cause Rule)
rest_of before lines after = read_lines items_next before lines >>= λ state. placed after (items_end state)

-- The numbers and texts of these lines are in their ranges, each line keeps the rules after those before it, and the last code object may end.
pub record KeepRules (lines : List TextLine) : Type 0 where
  pub each : Keeps Fits fault_after [] lines
  pub ended : may_end (course_of lines).begun ≡ true

-- the list has its stamps, and its lines keep the ranges and the rules
pub record IsItemList (list : ItemList) : Type 0 where
  pub stamped : IsStamped list.items
  pub rules : KeepRules (item_lines list)

-- The lines of a text that are not passed over spell this list, line by line.
abbrev pub Spells : List ℕ → ItemList → Type 0
Spells text list = EachIsSpelled item_words (item_lines list) (counted text)

-- the canonical text of a list
abbrev pub items_text : ItemList → List ℕ
items_text list = text_of item_words (item_lines list)

-- the first fault of a text is at this line, and has this cause
abbrev pub IsRefusedAt : List ℕ → ℕ → LineCause → Type 0
IsRefusedAt text number cause = (own : Cause Rule) × IsTextFault items_next items_end [] text (number, own) × (cause ≡ line_cause own)

-- what a refusal says of the text; out of memory says nothing of it
abbrev pub IsRefused : List ℕ → ReadRefused → Type 0
IsRefused text (refused.At number cause) = IsRefusedAt text number cause
IsRefused text refused.Memory = Unit {0}
