pub mod Texts
pub mod Facts
