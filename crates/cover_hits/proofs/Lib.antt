pub mod Totals
pub mod Worked
