pub mod Parameters
pub mod Items
pub mod Parts
pub mod Strong
pub mod Sites
