pub mod Packing
pub mod Stored
pub mod Blocks
pub mod Segments
pub mod Walking
pub mod Times
