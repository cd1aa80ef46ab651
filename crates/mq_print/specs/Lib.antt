pub mod Lists
pub mod Shown
pub mod Objects
pub mod Columns
