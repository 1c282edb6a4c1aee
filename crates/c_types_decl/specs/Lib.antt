pub mod GivenView
pub mod Steps
pub mod Rows
pub mod Entities
pub mod Braces
pub mod Fronts
pub mod SlotsView
pub mod ValueView
