pub mod LineParts
pub mod NumeralWords
