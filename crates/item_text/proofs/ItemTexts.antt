-- What is read of the text of an item list.
use Rattle.std.proofs.Common.{◌≡◌, ◌∙◌, ℕ, List, [], ◌∷◌, true, Ok, Err, refl, sym, ap, subst}
use Rattle.prof_lines.specs.declared.fault.Cause.{Cause}
use Rattle.prof_lines.specs.Lines.{counted}
use Rattle.prof_lines.specs.Folds.{IsTextFault}
use Rattle.prof_lines.specs.Values.{EachIsSpelled}
use Rattle.prof_lines.proofs.Folds.{text_fault}
use Rattle.prof_lines.proofs.Steps.{ok_same, guard_ok}
use Rattle.prof_lines.proofs.Values.{text_taken, text_again}
use Rattle.code_event.specs.ItemList.{IsStamped}
use Rattle.record_text.specs.declared.rule.Rule.{Rule}
use Rattle.item_text.specs.declared.item_line.TextLine.{TextLine}
use Rattle.item_text.specs.declared.items.ItemList.{ItemList}
use Rattle.item_text.specs.ItemLine.{item_words}
use Rattle.item_text.specs.ItemRules.{course_of, may_end, fault_after}
use Rattle.item_text.specs.Items.{Fits, line_after, items_next, items_end, lines_read, item_lines, items_text, KeepRules, IsItemList, Spells}
use Rattle.item_text.proofs.ItemForms.{line_form}
use Rattle.item_text.specs.ItemLaws.{TextsSpellOneList, CanonicalTextsStay, ListsHaveTheirTexts}
use Rattle.item_text.proofs.CanonicalItems.{canonical_items}
use Rattle.item_text.proofs.Flattening.{lists_are_one}

end_keeps : (lines whole : List TextLine) → items_end lines ≡ Ok whole → (lines ≡ whole) × (may_end (course_of lines).begun ≡ true)
end_keeps [] whole h = absurd cc
end_keeps (first ∷ lines) whole h = let g = guard_ok (may_end (course_of (first ∷ lines)).begun) _ _ whole h in (ok_same _ _ g.1, g.0)

-- lines that were read keep the rules, and the text spells them
lines_taken : (text : List ℕ) (lines : List TextLine) → lines_read text ≡ Ok lines → KeepRules lines × EachIsSpelled item_words lines (counted text)
lines_taken text lines h =
    let v = text_taken line_after Fits item_words fault_after items_end line_form text lines h in
    let e = end_keeps v.0 lines v.2 in
    subst (λ (z : List TextLine). KeepRules z × EachIsSpelled item_words z (counted text)) e.0 (record { each = v.1.0; ended = e.1 }, v.1.1)

-- the lines of a list that keep the rules are read from a text that spells them
lines_again : (text : List ℕ) (list : ItemList) → KeepRules (item_lines list) → Spells text list → lines_read text ≡ Ok (item_lines list)
lines_again text list rules s = text_again line_after Fits item_words fault_after items_end line_form text (item_lines list) (item_lines list, (rules.each, s), rw rules.ended refl)

pub spelled : (text : List ℕ) (list : ItemList) → lines_read text ≡ Ok (item_lines list) → Spells text list
spelled text list h = (lines_taken text (item_lines list) h).1

pub keeps_rules : (text : List ℕ) (list : ItemList) → IsStamped list.items → lines_read text ≡ Ok (item_lines list) → IsItemList list
keeps_rules text list stamped h = record { stamped = stamped; rules = (lines_taken text (item_lines list) h).0 }

pub only_list : (text : List ℕ) (read list : ItemList) → IsStamped read.items → lines_read text ≡ Ok (item_lines read) → IsItemList list → Spells text list → read ≡ list
only_list text read list stamped h is s = lists_are_one read list stamped is.stamped (ok_same _ _ (sym h ∙ lines_again text list is.rules s))

pub never_refused : (text : List ℕ) (place : ℕ × Cause Rule) (list : ItemList) → lines_read text ≡ Err place → IsItemList list → Spells text list → ⊥
never_refused text place list h is s = let again : lines_read text ≡ Ok (item_lines list) = lines_again text list is.rules s in absurd cc

pub refused_first : (text : List ℕ) (place : ℕ × Cause Rule) → lines_read text ≡ Err place → IsTextFault items_next items_end [] text place
refused_first text place h = text_fault items_next items_end [] text place h

-- a text spells one list at most
pub texts_spell_one : TextsSpellOneList
texts_spell_one text one other is_one is_other spells_one spells_other =
    lists_are_one one other is_one.stamped is_other.stamped (ok_same _ _ (sym (lines_again text one is_one.rules spells_one) ∙ lines_again text other is_other.rules spells_other))

pub canonical_texts_stay : CanonicalTextsStay
canonical_texts_stay list read is_list is_read s = ap items_text (texts_spell_one (items_text list) read list is_read is_list s (canonical_items list is_list))

pub lists_have_their_texts : ListsHaveTheirTexts
lists_have_their_texts one other is_one is_other same =
    texts_spell_one (items_text one) one other is_one is_other (canonical_items one is_one) (subst (λ (z : List ℕ). Spells z other) (sym same) (canonical_items other is_other))
