pub mod Apart
pub mod Fitting
pub mod Numbering
pub mod Steps
