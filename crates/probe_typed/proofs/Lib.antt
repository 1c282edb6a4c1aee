mod Follows
mod Near
mod Probes
mod Sides
mod Sites
mod Written
mod Tests
mod Expressions
pub mod Parts
