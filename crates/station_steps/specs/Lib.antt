pub mod Mail
pub mod Windows
pub mod Stepping
pub mod Forking
pub mod Tasks
