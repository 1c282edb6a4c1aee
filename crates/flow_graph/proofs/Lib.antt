pub mod Defined
pub mod Bodies
pub mod Flowing
pub mod Reading
pub mod Finding
