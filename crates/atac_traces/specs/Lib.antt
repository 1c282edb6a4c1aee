pub mod Files
pub mod Totals
pub mod Joins
pub mod Keeping
