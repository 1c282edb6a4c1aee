pub mod Woven
pub mod WovenNodes
pub mod WovenUnits
pub mod Readable
pub mod Firm
pub mod FirmUnits
pub mod Parsed
pub mod Sizes
