pub mod Filters
pub mod Steps
