pub mod Readings
pub mod Orderly
pub mod Walking
pub mod Placing
pub mod Pairs
