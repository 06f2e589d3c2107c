pub mod ItemDraft
pub mod ItemForms
pub mod ItemLaws
pub mod ItemLine
pub mod ItemRules
pub mod ItemSpelling
pub mod Items
