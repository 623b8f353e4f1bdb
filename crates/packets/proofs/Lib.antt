pub mod Counting
pub mod Passing
pub mod Steps
