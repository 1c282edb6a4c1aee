pub mod Tests
pub mod Runs
pub mod Rule
pub mod Halves
pub mod OneLine
pub mod Worked
