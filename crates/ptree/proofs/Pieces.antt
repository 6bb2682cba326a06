-- Readable pieces and markers.
pub mod Prefixes
pub mod Starts
pub mod ShippedSets
pub mod DefaultMarker
pub mod Presets
pub mod PieceTests
pub mod TickTrees
