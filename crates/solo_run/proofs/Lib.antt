pub mod Pairs
pub mod OneTurn
pub mod Turning
pub mod ToFront
pub mod Starting
pub mod Firsts
pub mod Resuming
