pub mod Counting
pub mod Deciding
pub mod Opening
pub mod Seen
pub mod TwoRacks
