-- What holds of all item lists and their texts.
use Rattle.std.specs.Prelude.{◌≡◌, ℕ, List}
use Rattle.code_event.specs.ItemList.{IsLegalItems}
use Rattle.item_text.specs.declared.items.ItemList.{ItemList}
use Rattle.item_text.specs.Items.{item_lines, items_text, KeepRules, IsItemList, Spells}

-- the canonical text of a list spells it
abbrev pub CanonicalTextsSpell : Type 0
CanonicalTextsSpell = (list : ItemList) → IsItemList list → Spells (items_text list) list

-- a text spells one list at most
abbrev pub TextsSpellOneList : Type 0
TextsSpellOneList = (text : List ℕ) (one other : ItemList) → IsItemList one → IsItemList other → Spells text one → Spells text other → one ≡ other

-- what a canonical text spells has this canonical text
abbrev pub CanonicalTextsStay : Type 0
CanonicalTextsStay = (list read : ItemList) → IsItemList list → IsItemList read → Spells (items_text list) read → items_text read ≡ items_text list

-- lists with the same canonical text are equal
abbrev pub ListsHaveTheirTexts : Type 0
ListsHaveTheirTexts = (one other : ItemList) → IsItemList one → IsItemList other → items_text one ≡ items_text other → one ≡ other

-- a list whose lines keep the rules is legal
abbrev pub KeptListsAreLegal : Type 0
KeptListsAreLegal = (list : ItemList) → KeepRules (item_lines list) → IsLegalItems list.items
