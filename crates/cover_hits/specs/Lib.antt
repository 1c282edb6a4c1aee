pub mod Hits
pub mod Fitting
