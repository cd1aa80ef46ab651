pub mod Names
pub mod Remainders
pub mod Paths
pub mod Choices
pub mod Nexts
pub mod Ends
