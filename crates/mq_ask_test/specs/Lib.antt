pub mod Lists
pub mod Questions
pub mod Findings
pub mod Faults
pub mod Files
pub mod Tested
pub mod Objects
pub mod Junit
