pub mod Defining
pub mod Mentioned
pub mod OneOut
pub mod PlacedLines
pub mod Worded
