pub mod Refusals
pub mod Reports
pub mod Statuses
pub mod Unbuilt
