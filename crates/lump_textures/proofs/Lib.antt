pub mod MarkSteps
