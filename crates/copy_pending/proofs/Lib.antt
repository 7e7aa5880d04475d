pub mod Merging
pub mod SetMarks
pub mod Firsts
pub mod Bounds
