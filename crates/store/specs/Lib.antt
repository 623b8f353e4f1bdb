pub mod Kind
pub mod Disk
pub mod Row
pub mod Change
pub mod Making
pub mod Key
pub mod Budget
