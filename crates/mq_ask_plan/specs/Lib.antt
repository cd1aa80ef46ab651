pub mod Renamed
pub mod Plan
pub mod Objects
