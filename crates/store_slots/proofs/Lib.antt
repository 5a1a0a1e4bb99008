pub mod Kept
pub mod OneBody
pub mod Behind
pub mod Gate
pub mod Filling
pub mod Finding
