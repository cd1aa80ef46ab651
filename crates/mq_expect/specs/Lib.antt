pub mod Expectations
pub mod Views
pub mod Files
