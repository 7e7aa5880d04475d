pub mod Journals
pub mod Turnings
pub mod Restings
pub mod Legals
pub mod Comings
pub mod Leasts
pub mod NewPasses
pub mod Lates
