pub mod Limit
pub mod EventLists
pub mod SoloView
pub mod Turns
pub mod Beginning
