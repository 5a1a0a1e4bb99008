pub mod Changes
pub mod Commands
pub mod Doors
pub mod Errors
pub mod Shapes
pub mod Texts
