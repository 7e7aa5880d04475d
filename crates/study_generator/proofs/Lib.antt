pub mod Ranges
pub mod Plans
pub mod Accepting
