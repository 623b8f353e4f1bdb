pub mod Field
pub mod FirstByte
pub mod Length
pub mod Number
pub mod Parts
