pub mod Bodies
pub mod Damage
pub mod Handles
pub mod Heads
pub mod Refusals
pub mod Steps
