pub mod Prefixes
pub mod Legals
pub mod Adding
pub mod Replacing
