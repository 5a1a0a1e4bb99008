pub mod Errors
pub mod Touch
pub mod Rows
pub mod Filing
pub mod Blocks
pub mod Layout
pub mod Lump
