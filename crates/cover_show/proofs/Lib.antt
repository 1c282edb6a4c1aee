pub mod Numbers
pub mod Cutting
pub mod Sorting
pub mod Gathering
pub mod Parting
pub mod Steps
pub mod Same
pub mod Worked
