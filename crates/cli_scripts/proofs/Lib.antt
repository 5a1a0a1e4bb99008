pub mod JoinedLines
mod ScriptOrigins
pub mod Scripted
mod Scripts
