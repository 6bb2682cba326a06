pub mod Given
pub mod ItemsRead
pub mod Later
pub mod Numbered
pub mod Outlined
pub mod Rooms
pub mod Walks
