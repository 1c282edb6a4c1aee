pub mod Law
pub mod Making
pub mod Masking
pub mod Meeting
pub mod Tabling
pub mod Finding
pub mod Picking
pub mod Running
pub mod Among
pub mod Belonging
pub mod Rowing
pub mod Joining
pub mod Placing
mod Spelled
mod Searched
mod Missing
mod MissingRows
