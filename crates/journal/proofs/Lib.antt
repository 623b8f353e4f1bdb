pub mod Folds
pub mod Written
pub mod Clears
pub mod Standing
pub mod Latest
pub mod Steps
pub mod Logs
pub mod Journals
