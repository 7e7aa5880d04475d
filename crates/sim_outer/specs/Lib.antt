pub mod Bytes
pub mod Counts
pub mod Views
pub mod Files
pub mod MemSinkView
pub mod MemInputsView
