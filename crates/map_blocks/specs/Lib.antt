pub mod Blocks
pub mod Deeds
pub mod Defined
pub mod Hanging
pub mod Naming
pub mod Ranges
pub mod ShapePlaces
pub mod Stops
