pub mod Grammar
pub mod WordsLeft
pub mod ServerWords
pub mod Examples
pub mod Spaced
pub mod Forms
pub mod Texts
