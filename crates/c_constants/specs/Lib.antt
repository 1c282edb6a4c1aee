pub mod Constants
pub mod Laws
pub mod Numbers
pub mod Probes
pub mod Words
