pub mod Deeds
pub mod Kinds
pub mod Notes
pub mod SomeSource
pub mod SourceDeeds
pub mod Typed
