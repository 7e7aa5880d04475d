pub mod Numbers
pub mod Texts
pub mod Scripts
pub mod Branches
pub mod Nets
