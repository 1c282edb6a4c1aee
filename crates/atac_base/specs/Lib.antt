pub mod Outside
pub mod Items
pub mod Telling
pub mod Memory
