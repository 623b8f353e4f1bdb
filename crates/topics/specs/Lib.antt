pub mod Text
pub mod Levels
pub mod Names
pub mod Matching
pub mod Qos
pub mod Subscription
