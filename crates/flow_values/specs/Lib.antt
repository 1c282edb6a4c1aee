pub mod Initialised
pub mod Bodies
pub mod Programs
pub mod Made
pub mod FilePrograms
