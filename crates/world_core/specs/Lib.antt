pub mod Worlds
pub mod Opening
pub mod Overs
pub mod Cuts
pub mod Taking
pub mod Tracing
