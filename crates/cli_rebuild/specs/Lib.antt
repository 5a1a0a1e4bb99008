pub mod Holding
pub mod Rebuilding
pub mod Given
