pub mod Base
pub mod Pile
