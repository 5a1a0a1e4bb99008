pub mod AreaSteps
pub mod BorderSteps
pub mod RuleSteps
pub mod GraphicSteps
pub mod RowSteps
pub mod TextureSteps
