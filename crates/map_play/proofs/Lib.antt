pub mod ItemSteps
pub mod TagSteps
pub mod BlockSteps
