pub mod Remove
pub mod Ring
pub mod Run
