pub mod Entries
pub mod FaultPlaces
pub mod Inputs
pub mod Keys
pub mod KnownColors
pub mod WarningLists
