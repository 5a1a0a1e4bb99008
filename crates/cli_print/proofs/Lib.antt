pub mod FirstCalled
pub mod LevelLines
pub mod Linting
pub mod Origins
pub mod Taking
pub mod Unread
