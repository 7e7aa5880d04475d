pub mod Routing
pub mod Grouping
pub mod Laws
