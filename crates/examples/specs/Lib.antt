pub mod Escapes
pub mod Given
pub mod OwnTypes
pub mod Tasks
