pub mod Fronts
pub mod Forms
pub mod Named
pub mod Planned
pub mod NamedRoutines
pub mod Rows
pub mod Small
