-- What a turn does that takes an item.
use Rattle.std.proofs.Common.{◌≡◌, ℕ, List, [], ◌∷◌, ◌++◌, true, refl, sym, subst}
use Rattle.std.specs.Prelude.{Option, Some}
use Rattle.code_event.specs.ItemList.{ListSoFar, MayCome, IsLegalAfter, IsLegalItems}
use Rattle.code_event.specs.declared.event.CodeEvent.{CodeEvent}
use Rattle.code_event.specs.declared.event.CodeEvent.TheVariants.{Create, Move, NoOpt, Deopt, Delete, Start, Stop, Finish}
use Rattle.code_event.specs.declared.tick.Item.{Item}
use Rattle.code_event.specs.declared.tick.Item.TheVariants as item
use Rattle.out_stream.specs.Parts.{Parts}
use Rattle.processor.specs.Course.{CourseParts, Courses, GivesItem, IsOnCourse, item_answer}
use Rattle.processor.specs.Processor.{Ends, PassesThrough, IsTurn}
use Rattle.processor.specs.Taking.{HasTaken, is_next, applied_with, ticked_with}
use Rattle.processor.specs.declared.ports.PortCall.{PortCall}
use Rattle.processor.specs.declared.turn.Phase.TheVariants as phase
use Rattle.processor.specs.declared.turn.ProcTurn.{ProcTurn}
use Rattle.processor.proofs.Taking.{taking_adds_the_next}

empty_before : (items more : List Item) → items ++ more ≡ [] → items ≡ []
empty_before [] more none = refl
empty_before (x ∷ items) more none = absurd (cc none)

may_before : (event : CodeEvent) (items more : List Item) (course : ListSoFar) → ((next : ListSoFar) → IsLegalAfter next (items ++ more) → IsLegalAfter next items)
    → MayCome course event (items ++ more) (λ next. IsLegalAfter next (items ++ more)) → MayCome course event items (λ next. IsLegalAfter next items)
may_before (Create start layout) items more course rest legal = rest course legal
may_before (Move from to) items more course rest legal = rest course legal
may_before (NoOpt start reason) items more course rest legal = rest course legal
may_before (Deopt start reason) items more course rest legal = rest course legal
may_before (Delete start) items more course rest legal = rest course legal
may_before (Start s options time) items more course rest legal = (legal.0, legal.1, legal.2, rest _ legal.3)
may_before (Stop s time) items more course rest legal = (legal.0, legal.1, rest _ legal.2)
may_before (Finish time files) items more course rest legal = (legal.0, empty_before items more legal.1)

legal_after : (items more : List Item) (course : ListSoFar) → IsLegalAfter course (items ++ more) → IsLegalAfter course items
legal_after [] more course legal = tt
legal_after (item.Event e ∷ items) more course legal = may_before e.event items more course (legal_after items more) legal
legal_after (item.Tick t ∷ items) more course legal = (legal.0, legal_after items more _ legal.1)

-- a list is legal where it is with more at its end
pub legal_before : (items more : List Item) → IsLegalItems (items ++ more) → IsLegalItems items
legal_before items more legal = legal_after items more _ legal

pub item_turn : (ends ends' : Ends) (applied ticked applied' ticked' : ℕ) (old new : CourseParts) (parts parts' : Option Parts) (given given' : Option (List PortCall)) (answer : ProcTurn) (x : Item)
    → old.phase ≡ phase.Open → is_next applied ticked x ≡ true → PassesThrough ends ends' (Some x) → applied' ≡ applied_with applied x → ticked' ≡ ticked_with ticked x
    → answer ≡ item_answer x → Courses old parts x new parts'
    → ((base : ℕ) (items : List Item) (before : Option Parts) → IsLegalItems (items ++ x ∷ []) → IsOnCourse base items old before parts → GivesItem base (items ++ x ∷ []) x old.filing new.filing.is_spent given given')
    → IsTurn ends ends' applied ticked applied' ticked' old new parts parts' given given' answer
item_turn ends ends' applied ticked applied' ticked' old new parts parts' given given' answer x going next passes applied_is ticked_is answers courses gives = record {
  taken = Some x;
  going = going;
  next = next;
  passes = passes;
  answers = answers;
  stays = tt;
  waiting = tt;
  stands = λ base items before s. record {
    taken = subst (λ n. HasTaken n ticked' (items ++ x ∷ [])) (sym applied_is)
        (subst (λ n. HasTaken (applied_with applied x) n (items ++ x ∷ [])) (sym ticked_is) (taking_adds_the_next applied ticked items x s.taken next));
    filed = λ legal. courses base items before legal (s.filed (legal_before items (x ∷ []) legal));
  };
  gives = λ base items before s legal. gives base items before legal (s.filed (legal_before items (x ∷ []) legal));
}
