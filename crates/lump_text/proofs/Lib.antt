pub mod Ascii
pub mod Lines
