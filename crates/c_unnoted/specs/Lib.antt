pub mod Written
pub mod Unnoted
