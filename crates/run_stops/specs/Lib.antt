pub mod Telling
pub mod ToldStops
