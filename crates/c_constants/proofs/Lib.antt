pub mod Digits
pub mod Held
pub mod Exact
pub mod Lower
pub mod Rows
