pub mod AskedFor
pub mod InTurn
pub mod LevelDumps
