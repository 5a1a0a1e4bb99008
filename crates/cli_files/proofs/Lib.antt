mod Causing
pub mod Replacing
