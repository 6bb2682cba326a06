-- Drawings: addresses, entries, the engine, and laws.
pub mod Addresses
pub mod Join
pub mod TreeDrawing
pub mod Inserted
pub mod Overlaid
pub mod Engine
pub mod Drawn
pub mod CutTrees
pub mod GivenAddresses
pub mod GivenLines
pub mod Standing
pub mod Subtrees
pub mod Laws
pub mod Joined
pub mod Utf8Texts
pub mod Examples
