pub mod Graphs
pub mod Bodies
pub mod Flow
pub mod Programs
