mod Counting
mod Examined
mod Made
pub mod Salvaging
mod TypedLines
