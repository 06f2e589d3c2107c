pub mod ProgramLine
pub mod Outline
pub mod OutlineDraft
pub mod LineForms
pub mod ProgramRules
pub mod ProgramText
pub mod Draft
pub mod TextLaws
