pub mod Bytes
pub mod Numbers
pub mod Quotes
pub mod Marks
pub mod Front
pub mod Kinds
pub mod Written
