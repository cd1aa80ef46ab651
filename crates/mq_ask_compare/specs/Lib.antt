pub mod Compare
pub mod Changed
pub mod Worded
