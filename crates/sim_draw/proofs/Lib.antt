pub mod Words
pub mod Weights
