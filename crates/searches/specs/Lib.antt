pub mod First
pub mod At
pub mod Search
