-- Trees, outlines and shapes.
pub mod ItemTrees
pub mod SameTrees
pub mod Outlines
pub mod OutlineAddresses
pub mod OutlineItems
pub mod LineTrees
pub mod PartialTrees
pub mod PartialSteps
pub mod Steps
pub mod Shapes
pub mod BuilderWalks
