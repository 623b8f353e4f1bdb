pub mod Out
pub mod Filters
pub mod Write
pub mod Laws
pub mod Examples
