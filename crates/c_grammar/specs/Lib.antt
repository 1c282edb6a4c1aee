pub mod Look
pub mod Starts
pub mod ExprReader
pub mod Reader
pub mod CodeView
pub mod Leads
pub mod Parts
pub mod Found
