-- Items that follow others: the events among them, what has happened after them, and that they are legal.
use Rattle.std.proofs.Common.{◌≡◌, List, [], ◌∷◌, ◌++◌, refl, ap, ◌∙◌}
use Rattle.std.specs.List.{AllByRecursion}
use Rattle.code_event.specs.CodeMap.{after_event, after_events}
use Rattle.code_event.specs.DeoptReasons.{DeoptReasons, no_reasons, reasons, reasons_after_event, reasons_after}
use Rattle.code_event.specs.FileLaws.{IsOpenEvent, IsOpenItem}
use Rattle.code_event.specs.ItemList.{ListSoFar, MayCome, IsLegalAfter}
use Rattle.code_event.specs.MomentLaws.{events_of}
use Rattle.code_event.specs.Seen.{Seen, mark, seen_behind}
use Rattle.code_event.specs.declared.code_map.Range.{Range}
use Rattle.code_event.specs.declared.event.CodeEvent.{CodeEvent}
use Rattle.code_event.specs.declared.event.CodeEvent.TheVariants.{Create, Move, NoOpt, Deopt, Delete, Start, Stop, Finish}
use Rattle.code_event.specs.declared.tick.Item.{Item}
use Rattle.code_event.specs.declared.tick.Item.TheVariants as item
use Rattle.raised_so_far.specs.ItemsSoFar.{list_after_event, list_after_item, list_after_items, at_time, IsCodeEvent, IsCodeItem}

pub all_joined : {X : Type 0} (P : X → Type 0) (xs ys : List X) → AllByRecursion P xs → AllByRecursion P ys → AllByRecursion P (xs ++ ys)
all_joined P [] ys one other = other
all_joined P (x ∷ xs) ys one other = (one.0, all_joined P xs ys one.1 other)

pub events_of-append : (items more : List Item) → events_of (items ++ more) ≡ events_of items ++ events_of more
events_of-append [] more = refl
events_of-append (item.Event e ∷ items) more = ap (λ (events : List CodeEvent). e.event ∷ events) (events_of-append items more)
events_of-append (item.Tick t ∷ items) more = events_of-append items more

reasons_after-append : (ranges : List Range) (why : DeoptReasons) (events more : List CodeEvent)
    → reasons_after ranges why (events ++ more) ≡ reasons_after (after_events ranges events) (reasons_after ranges why events) more
reasons_after-append ranges why [] more = refl
reasons_after-append ranges why (event ∷ events) more = reasons_after-append (after_event ranges event) (reasons_after_event ranges why event) events more

-- the reasons after more items, by those before
pub reasons-more : (items more : List Item)
    → reasons (events_of (items ++ more)) ≡ reasons_after (after_events [] (events_of items)) (reasons (events_of items)) (events_of more)
reasons-more items more = ap reasons (events_of-append items more) ∙ reasons_after-append [] no_reasons (events_of items) (events_of more)

pub list_after_items-append : (list : ListSoFar) (items more : List Item) → list_after_items list (items ++ more) ≡ list_after_items (list_after_items list items) more
list_after_items-append list [] more = refl
list_after_items-append list (x ∷ items) more = list_after_items-append (list_after_item list x) items more

-- an event that may come before some items may come before others
may_come : (list : ListSoFar) (event : CodeEvent) (items more : List Item) (Then Later : ListSoFar → Type 0) → IsOpenEvent event
    → MayCome list event items Then → (Then (list_after_event list event) → Later (list_after_event list event)) → MayCome list event more Later
may_come list (Create start layout) items more Then Later unfinished may keeps = keeps may
may_come list (Move from to) items more Then Later unfinished may keeps = keeps may
may_come list (NoOpt start reason) items more Then Later unfinished may keeps = keeps may
may_come list (Deopt start reason) items more Then Later unfinished may keeps = keeps may
may_come list (Delete start) items more Then Later unfinished may keeps = keeps may
may_come list (Start session options time) items more Then Later unfinished may keeps = (may.0, may.1, may.2, keeps may.3)
may_come list (Stop session time) items more Then Later unfinished may keeps = (may.0, may.1, keeps may.2)
may_come list (Finish time files) items more Then Later unfinished may keeps = absurd unfinished

pub legal_more : (list : ListSoFar) (items more : List Item) → AllByRecursion IsOpenItem items → IsLegalAfter list items → IsLegalAfter (list_after_items list items) more → IsLegalAfter list (items ++ more)
legal_more list [] more unfinished legal later = later
legal_more list (item.Event e ∷ items) more unfinished legal later =
    may_come list e.event items (items ++ more) (λ next. IsLegalAfter next items) (λ next. IsLegalAfter next (items ++ more)) unfinished.0 legal
    (λ rest. legal_more (list_after_event list e.event) items more unfinished.1 rest later)
legal_more list (item.Tick t ∷ items) more unfinished legal later = (legal.0, legal_more (at_time t.time list) items more unfinished.1 legal.1 later)

-- ---- events of the code

code_is_open : (event : CodeEvent) → IsCodeEvent event → IsOpenEvent event
code_is_open (Create start layout) code = tt
code_is_open (Move from to) code = tt
code_is_open (NoOpt start reason) code = tt
code_is_open (Deopt start reason) code = tt
code_is_open (Delete start) code = tt
code_is_open (Start session options time) code = absurd code
code_is_open (Stop session time) code = absurd code
code_is_open (Finish time files) code = absurd code

code_has_no_mark : (why : DeoptReasons) (event : CodeEvent) → IsCodeEvent event → mark why event ≡ []
code_has_no_mark why (Create start layout) code = refl
code_has_no_mark why (Move from to) code = refl
code_has_no_mark why (NoOpt start reason) code = refl
code_has_no_mark why (Deopt start reason) code = refl
code_has_no_mark why (Delete start) code = refl
code_has_no_mark why (Start session options time) code = absurd code
code_has_no_mark why (Stop session time) code = absurd code
code_has_no_mark why (Finish time files) code = absurd code

list_after_code : (list : ListSoFar) (event : CodeEvent) → IsCodeEvent event → list_after_event list event ≡ list
list_after_code list (Create start layout) code = refl
list_after_code list (Move from to) code = refl
list_after_code list (NoOpt start reason) code = refl
list_after_code list (Deopt start reason) code = refl
list_after_code list (Delete start) code = refl
list_after_code list (Start session options time) code = absurd code
list_after_code list (Stop session time) code = absurd code
list_after_code list (Finish time files) code = absurd code

code_may_come : (list : ListSoFar) (event : CodeEvent) (items : List Item) (Then : ListSoFar → Type 0) → IsCodeEvent event → Then list → MayCome list event items Then
code_may_come list (Create start layout) items Then code then_ = then_
code_may_come list (Move from to) items Then code then_ = then_
code_may_come list (NoOpt start reason) items Then code then_ = then_
code_may_come list (Deopt start reason) items Then code then_ = then_
code_may_come list (Delete start) items Then code then_ = then_
code_may_come list (Start session options time) items Then code then_ = absurd code
code_may_come list (Stop session time) items Then code then_ = absurd code
code_may_come list (Finish time files) items Then code then_ = absurd code

pub code_is_not_seen : (ranges : List Range) (why : DeoptReasons) (items : List Item) → AllByRecursion IsCodeItem items → seen_behind ranges why items ≡ []
code_is_not_seen ranges why [] code = refl
code_is_not_seen ranges why (item.Event e ∷ items) code =
    ap (λ (seen : List Seen). seen ++ seen_behind (after_event ranges e.event) (reasons_after_event ranges why e.event) items) (code_has_no_mark why e.event code.0)
    ∙ code_is_not_seen (after_event ranges e.event) (reasons_after_event ranges why e.event) items code.1
code_is_not_seen ranges why (item.Tick t ∷ items) code = absurd code.0

pub code_items_are_open : (items : List Item) → AllByRecursion IsCodeItem items → AllByRecursion IsOpenItem items
code_items_are_open [] code = tt
code_items_are_open (item.Event e ∷ items) code = (code_is_open e.event code.0, code_items_are_open items code.1)
code_items_are_open (item.Tick t ∷ items) code = absurd code.0

pub list_after_code_items : (list : ListSoFar) (items : List Item) → AllByRecursion IsCodeItem items → list_after_items list items ≡ list
list_after_code_items list [] code = refl
list_after_code_items list (item.Event e ∷ items) code = ap (λ (c : ListSoFar). list_after_items c items) (list_after_code list e.event code.0) ∙ list_after_code_items list items code.1
list_after_code_items list (item.Tick t ∷ items) code = absurd code.0

pub code_items_are_legal : (list : ListSoFar) (items : List Item) → AllByRecursion IsCodeItem items → IsLegalAfter list items
code_items_are_legal list [] code = tt
code_items_are_legal list (item.Event e ∷ items) code = code_may_come list e.event items (λ next. IsLegalAfter next items) code.0 (code_items_are_legal list items code.1)
code_items_are_legal list (item.Tick t ∷ items) code = absurd code.0
