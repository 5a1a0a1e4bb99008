pub mod Boxes
pub mod Marks
pub mod Nodes
pub mod Overlays
pub mod Places
pub mod Subsectors
pub mod Texts
