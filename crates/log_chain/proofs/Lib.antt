pub mod Packs
pub mod Chains
pub mod Tails
pub mod Walks
pub mod Timing
