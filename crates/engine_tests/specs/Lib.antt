pub mod Abreast
pub mod Seen
