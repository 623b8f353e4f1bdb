pub mod Span
pub mod View
pub mod Beyond
pub mod Through
pub mod Sound
