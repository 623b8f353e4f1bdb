pub mod Targets
pub mod Messages
pub mod Steps
