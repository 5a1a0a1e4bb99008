pub mod Finding
pub mod Telling
pub mod Walking
