pub mod Direct
pub mod Aside
