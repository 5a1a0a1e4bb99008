pub mod Named
pub mod Patched
pub mod Marks
