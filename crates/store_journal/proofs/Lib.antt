pub mod Lengths
pub mod Groups
pub mod Parts
pub mod OneReading
pub mod Kept
pub mod ReadingLoop
pub mod Append
