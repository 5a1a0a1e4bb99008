pub mod Rebuilding
pub mod Given
pub mod Holding
