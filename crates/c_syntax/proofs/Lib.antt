pub mod Rows
pub mod Open
pub mod Made
pub mod Lists
pub mod Fronts
pub mod Start
pub mod Written
pub mod Levels
