pub mod Overs
pub mod Texts
