pub mod JournalText
pub mod Laws
pub mod Examples
