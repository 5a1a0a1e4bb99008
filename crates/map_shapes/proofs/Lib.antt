pub mod Corners
pub mod DoorFaults
pub mod DoorTaken
pub mod FieldWords
pub mod Items
pub mod Settings
pub mod Texts
