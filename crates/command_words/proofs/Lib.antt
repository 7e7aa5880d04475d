pub mod Bridge
pub mod ClapRows
pub mod ClapSteps
pub mod Digits
pub mod Forms
pub mod Parse
pub mod Sources
pub mod WordShapes
