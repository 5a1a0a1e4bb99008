pub mod Asked
pub mod DrawnLevels
pub mod DumpSteps
pub mod Dumping
pub mod LevelDumps
