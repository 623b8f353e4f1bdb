pub mod Text
pub mod Write
