pub mod Regions
pub mod Limits
pub mod Deciding
pub mod Filled
pub mod Own
pub mod Carried
pub mod Made
