pub mod Paths
pub mod Counts
pub mod Laying
pub mod Ends
pub mod Listed
pub mod View
