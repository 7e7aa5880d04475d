pub mod Faults
pub mod SnapshotTexts
pub mod Reading
pub mod Laws
pub mod Examples
pub mod Counts
