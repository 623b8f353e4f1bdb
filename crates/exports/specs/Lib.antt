pub mod Split
pub mod Operation
pub mod Script
pub mod Read
