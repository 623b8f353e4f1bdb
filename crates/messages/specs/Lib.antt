pub mod Target
pub mod Message
pub mod View
