pub mod Live
pub mod Records
pub mod Replays
pub mod Refusals
pub mod Salvages
