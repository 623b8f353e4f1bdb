pub mod Session
pub mod View
