pub mod Types
pub mod Dissect
pub mod Command
pub mod Answer
