pub mod Rows
pub mod Named
pub mod Tables
pub mod Builtins
