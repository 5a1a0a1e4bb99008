pub mod LevelNames
pub mod Requests
pub mod Salvaging
pub mod Typing
