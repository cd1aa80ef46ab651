pub mod Lists
pub mod Joins
pub mod Meets
pub mod Renames
pub mod Bounds
