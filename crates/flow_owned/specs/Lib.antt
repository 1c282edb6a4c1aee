pub mod Own
pub mod Fields
pub mod Laws
