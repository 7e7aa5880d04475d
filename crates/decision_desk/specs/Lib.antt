pub mod Accounts
pub mod Turns
pub mod Legal
pub mod Leasts
pub mod Passes
pub mod Desks
pub mod Laws
