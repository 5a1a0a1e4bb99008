pub mod Fronts
pub mod Items
pub mod Drawn
pub mod Over
pub mod InTurn
pub mod Lines
pub mod Written
