pub mod Prefixes
pub mod Finding
pub mod Writing
pub mod Appending
pub mod Counts
