pub mod Lines
pub mod Sections
pub mod Reading
pub mod Rightly
pub mod Sizes
pub mod ReadsAsScript
