pub mod Rows
pub mod LastLength
pub mod Stars
