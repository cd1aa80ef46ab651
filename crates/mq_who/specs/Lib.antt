pub mod Who
pub mod Faults
pub mod Made
pub mod Extents
pub mod Claims
