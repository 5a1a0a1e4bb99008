pub mod Mended
pub mod Once
pub mod Imported
pub mod Refused
pub mod Outcome
pub mod Added
pub mod Unchanged
pub mod Texts
