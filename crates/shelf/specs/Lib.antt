pub mod Racks
pub mod Rules
