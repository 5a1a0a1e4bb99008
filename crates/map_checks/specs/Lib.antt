pub mod Errors
pub mod Unused
pub mod Textures
pub mod Corners
pub mod Texts
pub mod Findings
pub mod Tallies
