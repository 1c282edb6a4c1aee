pub mod Orderly
pub mod Tables
pub mod Laws
