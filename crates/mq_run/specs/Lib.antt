pub mod Trails
pub mod Failures
pub mod Wrapped
pub mod Output
pub mod Ending
pub mod Running
pub mod Status
