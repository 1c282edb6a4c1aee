mod More
mod Found
mod Outside
mod Sites
mod Bodies
mod Programs
pub mod Laws
pub mod Positions
pub mod Strong
mod Worked
mod WorkedCopies
mod Grown
mod Outcomes
mod Counted
mod Standing
mod Numbers
pub mod Walks
pub mod Lists
mod Whole
mod Told
pub mod Named
mod Before
pub mod Tested
