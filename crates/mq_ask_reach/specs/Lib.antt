pub mod Reach
pub mod Script
pub mod Objects
