pub mod Deadlines
pub mod Due
pub mod Stored
pub mod Receivers
