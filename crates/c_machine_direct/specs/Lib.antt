pub mod Forms
pub mod Ways
pub mod Kept
