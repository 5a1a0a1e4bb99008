pub mod Origins
pub mod Putting
pub mod Gathering
