pub mod Covered
pub mod Rows
pub mod Lives
pub mod Waits
pub mod Gaining
pub mod Settled
