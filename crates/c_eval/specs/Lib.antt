pub mod Rest
pub mod Forms
pub mod Advance
