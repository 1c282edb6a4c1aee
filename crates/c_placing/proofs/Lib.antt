pub mod Placing
pub mod PlacedShaped
pub mod PlacedEqual
pub mod Written
