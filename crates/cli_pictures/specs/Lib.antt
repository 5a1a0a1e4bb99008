pub mod LaidOver
pub mod LevelPicture
pub mod LevelTree
pub mod Marking
pub mod Picturing
