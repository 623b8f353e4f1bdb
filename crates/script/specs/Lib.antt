pub mod Texts
pub mod Command
pub mod Answer
