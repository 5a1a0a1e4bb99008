pub mod Drawing
pub mod DrawnInto
pub mod DrawnOver
pub mod Including
pub mod ScriptCanvases
pub mod ScriptMaps
pub mod ScriptOrigins
