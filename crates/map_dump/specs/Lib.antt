pub mod Dump
pub mod Errors
pub mod Laws
pub mod MapDumps
pub mod Texts
