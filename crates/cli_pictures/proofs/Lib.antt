pub mod LevelPicture
pub mod MarkList
pub mod Picturing
mod Putting
