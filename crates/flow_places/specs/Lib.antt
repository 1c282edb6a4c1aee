pub mod Sited
pub mod Declared
pub mod Laws
